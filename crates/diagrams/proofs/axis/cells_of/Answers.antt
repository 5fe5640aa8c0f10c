use Rattle.proof_prelude.proofs.{◌++◌, ◌∷◌, ◌-◌, [], ◌∙◌, ap, sym, arith, get_or, map, take}
use Rattle.diagrams.specs.Columns.{between, column_of, spans}
use Rattle.diagrams.proofs.{columns_first, columns_next}
use Rattle.diagrams.proofs.axis.cells_of.Goals as goal
use Rattle.diagrams.proofs.axis.cells_of.Goals.{then-i-gt0+in_ok-push_gap, else-i-gt0}

pub loop-i-preserved : goal.loop-i-preserved
loop-i-preserved c =
    let f = column_of c.args.ancestries.now c.args.leaves.now in
    let xs = c.args.marked.now in
    let i = c.loop-i.i in
    let before = map f (spans (take i xs)) in
    let gap = map f (between (get_or xs (i - 1) 0) (get_or xs i 0)) in
    elim c.if-i-gt0.branch [
      | then-i-gt0+in_ok-push_gap w ↦
          c.in_ok-push.ensures.items
          ∙ ap (λ ys. ys ++ c.cell_of.result ∷ []) (ap (λ v. v.items) w.cells-is ∙ w.in_ok-push_gap.ensures ∙ ap (λ ys. ys ++ gap) c.loop-i.invariant)
          ∙ ap (λ cell. (before ++ gap) ++ cell ∷ []) c.cell_of.ensures
          ∙ sym (columns_next f xs i (i - 1) 0 0 (omega arith) (omega arith))
      | else-i-gt0 w ↦
          c.in_ok-push.ensures.items
          ∙ ap (λ ys. ys ++ c.cell_of.result ∷ []) (ap (λ v. v.items) w.cells-is ∙ c.loop-i.invariant)
          ∙ ap (λ cell. before ++ cell ∷ []) c.cell_of.ensures
          ∙ sym (columns_first f xs i 0 (omega arith) (omega arith))
    ]
