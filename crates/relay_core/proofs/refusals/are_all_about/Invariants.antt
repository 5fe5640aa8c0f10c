use Rattle.proof_prelude.proofs.{◌≡◌, drop}
use Rattle.relay_core.specs.Views.{texts_of, row_errors_view}
use Rattle.relay_core.specs.Leaves.{are_all_about}
use Rattle.relay_core.proofs.refusals.are_all_about.Given as goal

abbrev pub invariant-loop-rev : goal.invariant-loop-rev
invariant-loop-rev l = are_all_about (row_errors_view l.rows) l.id (texts_of (drop l.rev-index l.rev-items)) ≡ are_all_about (row_errors_view l.rows) l.id (texts_of l.rev-items)
