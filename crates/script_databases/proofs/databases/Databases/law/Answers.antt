use Rattle.proof_prelude.proofs.{subst}
use Rattle.script_databases.specs.{IsConsistent}
use Rattle.script_databases.proofs.databases.Databases.law.Goals as goal

pub returns : goal.returns
returns c = subst IsConsistent c.self.view_is c.self.invariant.2
