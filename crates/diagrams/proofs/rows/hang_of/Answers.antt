use Rattle.proof_prelude.proofs.{◌-◌, ◌∙◌, arith, sym}
use Rattle.diagrams.proofs.OpenRows.{hang_at}
use Rattle.diagrams.proofs.rows.hang_of.Goals as goal

pub returns : goal.returns
returns c =
    c.last_shared.ensures
    ∙ sym (hang_at c.args.ancestries.now c.args.leaves.now c.args.i (c.args.i - 1) c.index-leaves-i.result c.index-leaves-i-2.result (omega arith) (omega arith))
