use Rattle.proof_prelude.proofs.{◌≡◌, ◌-◌, ◌≤◌, ⊎_elim, arith, cases_lt, get_or, subst}
use Rattle.diagrams.specs.Rows.{open_hangs}
use Rattle.diagrams.proofs.OpenRows.{at_last, hang_above}
use Rattle.diagrams.proofs.rows.parent_of.Goals as goal

pub loop-count-preserved : goal.loop-count-preserved
loop-count-preserved c =
    let rows = c.args.open.now.items in
    let count = c.loop-count.count in
    let few = c.loop-count.invariant.0 in
    let high = c.loop-count.invariant.1 in
    let last : c.args.hang ≤ get_or (open_hangs rows) (count - 1) 0 =
    omega (arith, c.if-index-hang.true, hang_above rows (count - 1) c.index.result.now (omega (arith, few, c.loop-count-test.true)) c.index.ensures) in (
      omega (arith, few),
      λ k from low. ⊎_elim (λ early. at_last c.args.hang (open_hangs rows) (count - 1) k last (omega (arith, early, from)))
          (λ late. high k late low) (cases_lt k count),
    )
