use Rattle.proof_prelude.proofs.{take}
use Rattle.couch_base.proofs.{AreWanted}
use Rattle.couch_base.proofs.paging.find_rows.Given as goal

abbrev pub invariant-loop-id : goal.invariant-loop-id
invariant-loop-id l = AreWanted l.table l.since l.last (take l.id-index l.ids) l.rows.items
