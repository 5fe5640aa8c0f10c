use Rattle.proof_prelude.proofs.{◌-◌, length, sym, subst, arith, take-add, IsAscii, IsAscii-append}
use Rattle.json_values.proofs.{ascii_joined}
use Rattle.json_values.proofs.utf8.is_ascii.Goals as goal

pub loop-i-preserved : goal.loop-i-preserved
loop-i-preserved c = (omega arith, subst IsAscii (sym (take-add c.loop-i.i 16 c.args.bytes.now)) (IsAscii-append _ _ c.loop-i.invariant.1 (c.is_ascii_16.ensures c.if-not-is_ascii_16.false)))

pub returns : goal.returns
returns c last = ascii_joined c.args.bytes.now c.loop-i.i (length c.args.bytes.now - 16) (omega arith) (omega arith) c.loop-i.invariant.1 (c.is_ascii_16-2.ensures last)
