use Rattle.proof_prelude.proofs.{ap, ◌∙◌}
use Rattle.couch_base.specs.{DatabaseValue, feed}
use Rattle.couch_base.proofs.{rows_are_feed}
use Rattle.couch_base.proofs.database.Database.feed_within.Goals as goal

pub returns : goal.returns
returns c =
    c.within.ensures
    ∙ rows_are_feed c.self.inside.uuid c.self.inside.life c.self.inside.table c.args.since c.args.goal
    ∙ ap (λ (v : DatabaseValue). feed v c.args.since c.args.goal) c.self.view_is
