use Rattle.proof_prelude.proofs.{◌≡◌, flat_map, take}
use Rattle.std.specs.List.{zip}
use Rattle.diagrams.specs.Columns.{marks_of}
use Rattle.diagrams.proofs.axis.marks.Given as goal

abbrev pub invariant-loop-i : goal.invariant-loop-i
invariant-loop-i l = l.all.items ≡ flat_map marks_of (take l.i (zip l.leaves l.rows))
