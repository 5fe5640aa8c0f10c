use Rattle.proof_prelude.proofs.{◌-◌, drop}
use Rattle.rev_core.specs.{FallsByOne}
use Rattle.output_parser.proofs.revs.falls_by_one.Given as goal

abbrev pub invariant-loop-i : goal.invariant-loop-i
invariant-loop-i l = FallsByOne (drop (l.i - 1) l.revs)
