use Rattle.proof_prelude.proofs.{subst}
use Rattle.couch_base.specs.{LawfulDatabase}
use Rattle.couch_base.proofs.{lawful}
use Rattle.couch_base.proofs.database.Database.law.Goals as goal

pub returns : goal.returns
returns c = subst LawfulDatabase c.self.view_is (lawful c.self.inside.uuid c.self.inside.life c.self.inside.table c.self.invariant c.last-last.ensures.kept)
