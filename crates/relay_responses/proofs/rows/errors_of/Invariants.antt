-- What is read and what is left are all errors.
use Rattle.proof_prelude.proofs.{◌≡◌, ◌++◌, drop}
use Rattle.json.specs.Value.{items_view}
use Rattle.relay_core.specs.Views.{row_errors_view}
use Rattle.relay_responses.specs.Read.{some_items}
use Rattle.relay_responses.specs.Logs.{row_error_in}
use Rattle.relay_responses.proofs.rows.errors_of.Given as goal

abbrev pub invariant-loop-item : goal.invariant-loop-item
invariant-loop-item l =
    row_errors_view l.errors.items ++ some_items row_error_in (items_view (drop l.item-index l.item-items)) ≡ some_items row_error_in (items_view l.item-items)
