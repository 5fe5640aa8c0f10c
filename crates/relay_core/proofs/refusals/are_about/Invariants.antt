use Rattle.proof_prelude.proofs.{◌≡◌, drop}
use Rattle.relay_core.specs.Views.{row_errors_view}
use Rattle.relay_core.specs.Leaves.{are_about}
use Rattle.relay_core.proofs.refusals.are_about.Given as goal

abbrev pub invariant-loop-row : goal.invariant-loop-row
invariant-loop-row l = are_about (row_errors_view (drop l.row-index l.rows)) l.id l.leaf ≡ are_about (row_errors_view l.rows) l.id l.leaf
