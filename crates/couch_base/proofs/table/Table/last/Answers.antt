use Rattle.proof_prelude.proofs.{subst}
use Rattle.couch_base.specs.{IsKept}
use Rattle.couch_base.proofs.table.Table.last.Goals as goal

pub returns-clause-kept : goal.returns-clause-kept
returns-clause-kept c = subst IsKept c.self.view_is c.self.invariant
