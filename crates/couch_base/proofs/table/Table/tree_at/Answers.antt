use Rattle.proof_prelude.proofs.{◌≡◌, Some, sym, ap, ◌∙◌, slice_get, same_Some}
use Rattle.couch_base.specs.{tree_in, Id, Kept, TableValue, documents_of, feed_of, found}
use Rattle.couch_base.proofs.{found_in}
use Rattle.couch_base.proofs.table.Table.tree_at.Goals as goal

-- the table has the document at the position
has_it : (c : goal.In-Some) → found c.self.inside.docs.entries c.args.id.now ≡ Some c.in-Some.kept.now
has_it c =
    let p = c.requires.place.there in
    let id = c.args.id.now in
    let at = ap (λ (v : TableValue). slice_get v.entries c.args.place) c.self.view_is ∙ p.1 in
    let same : p.0 ≡ c.in-Some.kept.now = ap (λ (e : Id × Kept). e.1) (same_Some (id, p.0) (c.in-Some._there.now, c.in-Some.kept.now) (sym at ∙ sym c.in-Some.ensures.entry)) in
    ap (λ (v : TableValue). found v.entries id) c.self.view_is ∙ p.2 ∙ ap (λ (k : Kept). Some k) same

pub returns-clause-value : goal.returns-clause-value
returns-clause-value c =
    let es = c.self.inside.docs.entries in
    let id = c.args.id.now in
    let is = has_it c in
    sym (ap (λ (v : TableValue). tree_in (documents_of v) id) (sym c.self.view_is) ∙ found_in (found es) (feed_of es c.self.inside.index.items) id c.in-Some.kept.now is (c.self.invariant.table.indexed id c.in-Some.kept.now is))

pub returns-clause-document : goal.returns-clause-document
returns-clause-document c = c.self.invariant.table.trees c.args.id.now c.in-Some.kept.now (has_it c)
