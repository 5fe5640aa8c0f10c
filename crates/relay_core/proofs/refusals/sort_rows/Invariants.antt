use Rattle.proof_prelude.proofs.{◌≡◌, ◌++◌}
use Rattle.relay_core.specs.Views.{row_errors_view}
use Rattle.relay_core.specs.Leaves.{refusals_in}
use Rattle.relay_core.proofs.refusals.sort_rows.Given as goal

abbrev pub invariant-loop-row : goal.invariant-loop-row
invariant-loop-row l = row_errors_view l.refused.items ≡ row_errors_view l.initial.refused.items ++ refusals_in (row_errors_view l.yielded)
