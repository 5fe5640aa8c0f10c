use Rattle.proof_prelude.proofs.{◌≡◌, ◌++◌, drop, string_bytes}
use Rattle.relay_core.specs.Views.{texts_of, row_errors_view}
use Rattle.relay_core.specs.Leaves.{too_large_rows}
use Rattle.relay_core.proofs.refusals.push_too_large.Given as goal

abbrev pub invariant-loop-rev : goal.invariant-loop-rev
invariant-loop-rev l =
    row_errors_view l.refused.items ++ too_large_rows (string_bytes l.doc.id) (texts_of (drop l.rev-index l.rev-items)) ≡ row_errors_view l.initial.refused.items ++ too_large_rows (string_bytes l.doc.id) (texts_of l.rev-items)
