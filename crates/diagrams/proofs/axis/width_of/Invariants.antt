use Rattle.proof_prelude.proofs.{◌≡◌, fold, max, take}
use Rattle.diagrams.specs.Ancestries.{ancestry_of}
use Rattle.diagrams.specs.Columns.{width_in}
use Rattle.diagrams.proofs.axis.width_of.Given as goal

abbrev pub invariant-loop-i : goal.invariant-loop-i
invariant-loop-i l =
    l.width ≡ fold (λ width leaf. max width (width_in l.low l.high (ancestry_of l.ancestries leaf.parent))) 0 (take l.i l.leaves)
