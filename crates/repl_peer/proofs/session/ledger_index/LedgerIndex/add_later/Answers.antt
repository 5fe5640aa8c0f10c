use Rattle.proof_prelude.proofs.{sym, ap, ◌∙◌, ◌||◌, ◌≡◌, cond, Some, None, lookup, option_copied_mut, bytes_eq}
use Rattle.rev_core.specs.{is_among}
use Rattle.couch_base.specs.{Id}
use Rattle.repl_peer.proofs.{added_new}
use Rattle.repl_peer.proofs.session.ledger_index.LedgerIndex.add_later.Goals as goal

pub returns-in_ok-insert-in-None-clause-ok : goal.returns-in_ok-insert-in-None-clause-ok
returns-in_ok-insert-in-None-clause-ok c =
    let old = λ (q : Id). lookup (bytes_eq q) c.args.self.now.later.entries in
    let new = λ (q : Id). lookup (bytes_eq q) c.insert.new.self.entries in
    let revs = c.add_revs-in-None.new.known in
    let absent : old c.args.doc.now.id ≡ None = ap old (sym c.id.ensures.part) ∙ sym c.get_mut.ensures.value ∙ ap option_copied_mut c.in-None.is in
    added_new (λ known. known.keys) old new revs c.args.doc.now.id c.args.doc.now.ancestry absent
    (λ r. c.in_ok-add_revs-in-None.ensures.ok r ∙ ap (λ l. is_among r l || is_among r c.revs-in-None.result.now) c.new-revs.ensures.empty ∙ ap (is_among r) (c.revs-in-None.ensures.all ∙ c.ancestry-in-None.ensures.part))
    (λ q. c.in_ok-insert-in-None.ensures.updates.0 q
    ∙ (λ i. cond (bytes_eq c.in_ok-id-in-None.id q) (Some revs) (lookup (bytes_eq q) (c.get_mut.follows.holds-at-none i).entries))
    ∙ ap (λ (i : Id). cond (bytes_eq i q) (Some revs) (old q)) (c.in_ok-id-in-None.ensures.copied ∙ c.id-in-None.ensures.part))
