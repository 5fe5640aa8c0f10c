use Rattle.proof_prelude.proofs.{sym, subst}
use Rattle.couch_base.specs.{InOrder}
use Rattle.couch_base.proofs.{order_above}
use Rattle.couch_base.proofs.feed.Feed.within.Goals as goal

pub invariant_of-result : goal.invariant_of-result
invariant_of-result c =
    subst InOrder (sym c.rows_above.ensures.rows) (order_above c.args.since c.args.table.now.rows c.rows_above.ensures.kept.rows.order)
