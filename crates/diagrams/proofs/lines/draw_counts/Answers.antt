use Rattle.proof_prelude.proofs.{arith}
use Rattle.diagrams.proofs.{counts_all, counts_more}
use Rattle.diagrams.proofs.lines.draw_counts.Goals as goal

pub loop-i-preserved : goal.loop-i-preserved
loop-i-preserved c =
    counts_more _ _ _ c.args.columns.now c.args.numbers.now c.loop-i.i _ c.number_at.result (omega arith) (omega arith)
    c.number_at.ensures c.loop-i.invariant c.in_ok-put_count.ensures

pub returns-then-i-numbers : goal.returns-then-i-numbers
returns-then-i-numbers c = counts_all _ _ c.args.columns.now c.args.numbers.now c.loop-i.i (omega arith) c.loop-i.invariant
