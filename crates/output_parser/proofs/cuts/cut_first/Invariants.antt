use Rattle.proof_prelude.proofs.{◌≡◌, true, take}
use Rattle.output_parser.specs.{lacks}
use Rattle.output_parser.proofs.cuts.cut_first.Given as goal

abbrev pub invariant-loop-i : goal.invariant-loop-i
invariant-loop-i l = lacks l.byte (take l.i l.text) ≡ true
