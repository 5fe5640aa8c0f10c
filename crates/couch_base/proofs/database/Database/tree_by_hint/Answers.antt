use Rattle.proof_prelude.proofs.{sym, ap, ◌∙◌}
use Rattle.couch_base.specs.{DatabaseValue, tree_in, feed_of, found}
use Rattle.couch_base.proofs.{none_in}
use Rattle.couch_base.proofs.database.Database.tree_by_hint.Goals as goal

pub returns-in-None-clause-value : goal.returns-in-None-clause-value
returns-in-None-clause-value c =
    let t = c.self.inside.table in
    let id = c.args.id.now in
    sym (ap (λ (v : DatabaseValue). tree_in v.docs id) (sym c.self.view_is) ∙ none_in (found t.entries) (feed_of t.entries t.rows) id c.find_by_hint.ensures.kept.table.held (c.find_by_hint.ensures.place.absent c.in-None.is))
