use Rattle.proof_prelude.proofs.{map, take}
use Rattle.diagrams.specs.Rows.{hangs_of}
use Rattle.diagrams.proofs.OpenRows.{AreRowsUpTo}
use Rattle.diagrams.proofs.rows.rows_of.Given as goal

abbrev pub invariant-loop-i : goal.invariant-loop-i
invariant-loop-i l = AreRowsUpTo l.ancestries l.leaves l.i l.rows.items l.open.items
