-- The rows that are added and those that are left are all rows.
use Rattle.proof_prelude.proofs.{◌≡◌, [], drop}
use Rattle.std.specs.Prelude.{fold}
use Rattle.relay_core.specs.Views.{docs_view}
use Rattle.relay_responses.specs.Maps.{docs_in}
use Rattle.relay_responses.specs.Pages.{add_row}
use Rattle.relay_responses.proofs.pages.merged.Given as goal

abbrev pub invariant-loop-row : goal.invariant-loop-row
invariant-loop-row l =
    fold add_row (docs_in l.docs.entries) (docs_view (drop l.row-index l.rows)) ≡ fold add_row [] (docs_view l.rows)
