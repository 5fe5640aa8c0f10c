-- What is read and what is left are all rows.
use Rattle.proof_prelude.proofs.{◌≡◌, drop, map}
use Rattle.json.specs.Value.{items_view}
use Rattle.journal_lines.specs.Lists.{leaves_view}
use Rattle.journal_lines.specs.Lists.{prepend, each_item}
use Rattle.journal_responses.specs.Pages.{row_in}
use Rattle.journal_responses.proofs.page.rows_of.Given as goal

abbrev pub invariant-loop-item : goal.invariant-loop-item
invariant-loop-item l =
    prepend (map leaves_view l.rows.items) (each_item row_in (items_view (drop l.item-index l.item-items))) ≡ each_item row_in (items_view l.item-items)
