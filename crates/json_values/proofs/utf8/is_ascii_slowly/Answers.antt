use Rattle.proof_prelude.proofs.{subst, arith, IsAscii, IsAscii-more, take_all}
use Rattle.json_values.proofs.utf8.is_ascii_slowly.Goals as goal

pub loop-i-preserved : goal.loop-i-preserved
loop-i-preserved c = (omega arith, IsAscii-more c.args.bytes.now c.loop-i.i (omega arith) c.loop-i.invariant.1 (omega arith))

pub returns : goal.returns
returns c whole = subst IsAscii (take_all c.loop-i.i c.args.bytes.now (omega arith)) c.loop-i.invariant.1
