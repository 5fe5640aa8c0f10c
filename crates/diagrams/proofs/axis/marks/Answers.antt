use Rattle.proof_prelude.proofs.{◌++◌, ◌∙◌, ap, sym, arith}
use Rattle.diagrams.specs.Columns.{marks_of}
use Rattle.diagrams.proofs.{marks_all, marks_next}
use Rattle.diagrams.proofs.axis.marks.Goals as goal

pub loop-i-preserved : goal.loop-i-preserved
loop-i-preserved c =
    let leaf = c.index-leaves-i.result in
    let row = c.index-rows-i.result in
    c.in_ok-push_marks.ensures ∙ ap (λ ys. ys ++ marks_of (leaf, row)) c.loop-i.invariant
    ∙ sym (marks_next c.args.leaves.now c.args.rows.now c.loop-i.i leaf row (omega arith) (omega arith) c.index-leaves-i.is c.index-rows-i.is)

pub returns : goal.returns
returns c =
    c.loop-i.invariant ∙ marks_all c.args.leaves.now c.args.rows.now c.loop-i.i (omega arith)
