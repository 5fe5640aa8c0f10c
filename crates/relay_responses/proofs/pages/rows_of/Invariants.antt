-- What is read and what is left are all rows.
use Rattle.proof_prelude.proofs.{◌≡◌, drop}
use Rattle.json.specs.Value.{items_view}
use Rattle.relay_core.specs.Views.{docs_view}
use Rattle.relay_responses.specs.Read.{prepend, each_item}
use Rattle.relay_responses.specs.Pages.{row_in}
use Rattle.relay_responses.proofs.pages.rows_of.Given as goal

abbrev pub invariant-loop-item : goal.invariant-loop-item
invariant-loop-item l =
    prepend (docs_view l.rows.items) (each_item row_in (items_view (drop l.item-index l.item-items))) ≡ each_item row_in (items_view l.item-items)
