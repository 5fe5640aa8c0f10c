use Rattle.proof_prelude.proofs.{◌≡◌, false, ◌||◌, ◌&&◌, Some, None, sym, ap, ap₂, ◌∙◌, cond, lookup, option_map_or, bytes_eq, or_assoc, is_some}
use Rattle.std.specs.Arc.{arc_value}
use Rattle.rev_core.specs.{RevId, is_among}
use Rattle.doc_json.specs.Document.{Document}
use Rattle.couch_base.specs.{Id}
use Rattle.repl_peer.specs.session.LedgerIndex.{is_in_first, is_in_later, is_ledgered}
use Rattle.repl_peer.specs.declared.session.ledger_index.LedgerIndex.{LedgerIndex}
use Rattle.repl_peer.proofs.{added_new, always_on_err, no_some, on_err, on_ok, or_last}
use Rattle.repl_peer.proofs.session.ledger_index.LedgerIndex.add.Goals as goal

pub returns-then-contains_key-clause-ok : goal.returns-then-contains_key-clause-ok
returns-then-contains_key-clause-ok c =
    let old = c.args.self.now in
    let new = c.add_later.new.self in
    let x = c.deref-then-contains_key.result.now in
    let d = arc_value c.args.doc.now in
    let all : ((id : Id) (r : RevId) → is_in_later new id r ≡ (is_in_later old id r || (bytes_eq x.id id && is_among r x.ancestry)))
    → (id : Id) (r : RevId) → is_ledgered new id r ≡ (is_ledgered old id r || (bytes_eq d.id id && is_among r d.ancestry)) = λ added id r.
    ap₂ (λ a b. a || b) (ap (λ m. option_map_or (λ doc. is_among r (arc_value {X = Document} doc).ancestry) (lookup (bytes_eq id) m.entries) false) c.add_later.ensures.first) (added id r)
    ∙ sym (or_assoc (is_in_first old id r) (is_in_later old id r) (bytes_eq x.id id && is_among r x.ancestry))
    ∙ ap (λ (y : Document). (is_in_first old id r || is_in_later old id r) || (bytes_eq y.id id && is_among r y.ancestry)) c.deref-then-contains_key.ensures in
    on_ok c.add_later.result all c.add_later.ensures.ok

pub returns-then-contains_key-clause-err : goal.returns-then-contains_key-clause-err
returns-then-contains_key-clause-err c =
    let old = c.args.self.now in
    let new = c.add_later.new.self in
    let all : ((id : Id) (r : RevId) → is_in_later new id r ≡ is_in_later old id r) → (id : Id) (r : RevId) → is_ledgered new id r ≡ is_ledgered old id r = λ same id r.
    ap₂ (λ a b. a || b) (ap (λ m. option_map_or (λ doc. is_among r (arc_value {X = Document} doc).ancestry) (lookup (bytes_eq id) m.entries) false) c.add_later.ensures.first) (same id r) in
    on_err c.add_later.result all c.add_later.ensures.err

pub returns-in_err-insert-clause-err : goal.returns-in_err-insert-clause-err
returns-in_err-insert-clause-err c =
    let old = c.args.self.now in
    let new : LedgerIndex = record { first = c.insert.new.self; later = old.later } in
    let all : (id : Id) (r : RevId) → is_ledgered new id r ≡ is_ledgered old id r = λ id r.
    ap (λ es. option_map_or (λ doc. is_among r (arc_value {X = Document} doc).ancestry) (lookup (bytes_eq id) es) false || is_in_later old id r) c.in_err-insert.ensures.err in
    always_on_err c.from_residual-in_err-insert.result all

pub returns-clause-ok : goal.returns-clause-ok
returns-clause-ok c id r =
    let old = λ (q : Id). lookup (bytes_eq q) c.args.self.now.first.entries in
    let new = λ (q : Id). lookup (bytes_eq q) c.insert.new.self.entries in
    let d = arc_value c.args.doc.now in
    let shared = c.in_ok-shared.shared in
    let named = c.id.ensures.part ∙ ap (λ (x : Document). x.id) c.deref.ensures in
    let absent : old d.id ≡ None = no_some _ (sym (c.contains_key.ensures ∙ ap (λ i. is_some (old i)) named) ∙ c.if-contains_key.false) in
    let copied = c.in_ok-id.ensures.copied ∙ c.id-2.ensures.part ∙ ap (λ (x : Document). x.id) c.deref-2.ensures in
    ap (λ b. b || is_in_later c.args.self.now id r) (added_new (λ doc. (arc_value {X = Document} doc).ancestry) old new shared d.id d.ancestry absent
    (λ q. ap (λ (x : Document). is_among q x.ancestry) c.in_ok-shared.ensures)
    (λ q. c.in_ok-insert.ensures.updates.0 q ∙ ap (λ (i : Id). cond (bytes_eq i q) (Some shared) (old q)) copied) id r)
    ∙ or_last (is_in_first c.args.self.now id r) (bytes_eq d.id id && is_among r d.ancestry) (is_in_later c.args.self.now id r)
