use Rattle.proof_prelude.proofs.{◌-◌, arith}
use Rattle.output_parser.proofs.{falls_init, falls_read}
use Rattle.output_parser.proofs.revs.falls_by_one.Goals as goal

pub loop-i-init : goal.loop-i-init
loop-i-init c = falls_init c.args.revs.now

pub returns-then-from-clause-no : goal.returns-then-from-clause-no
returns-then-from-clause-no c =
    λ e h.
    let same = falls_read c.args.revs.now (c.loop-i.i - 1 - 1) (c.loop-i.i - 1) c.index-revs-i.result c.index-revs-i-in-loop-i.result
    (omega (arith, c.loop-i-test.true)) (omega (arith, c.loop-i-test.true, c.loop-i.auto.i)) c.index-revs-i.is c.index-revs-i-in-loop-i.is h in
    omega (arith, same, c.if-from.true, c.from.ensures, c.from-in-loop-i.ensures, c.generation.ensures.part, c.generation-in-loop-i.ensures.part)
