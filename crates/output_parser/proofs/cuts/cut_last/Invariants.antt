use Rattle.proof_prelude.proofs.{◌≡◌, true, drop}
use Rattle.output_parser.specs.{lacks}
use Rattle.output_parser.proofs.cuts.cut_last.Given as goal

abbrev pub invariant-loop-i : goal.invariant-loop-i
invariant-loop-i l = lacks l.byte (drop l.i l.text) ≡ true
