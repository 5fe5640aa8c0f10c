use Rattle.proof_prelude.proofs.{◌≡◌, map, take}
use Rattle.diagrams.specs.Columns.{column_of, spans}
use Rattle.diagrams.proofs.axis.cells_of.Given as goal

abbrev pub invariant-loop-i : goal.invariant-loop-i
invariant-loop-i l = l.cells.items ≡ map (column_of l.ancestries l.leaves) (spans (take l.i l.marked))
