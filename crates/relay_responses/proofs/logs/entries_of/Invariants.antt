-- What is read and what is left are all entries.
use Rattle.proof_prelude.proofs.{◌≡◌, ◌++◌, drop}
use Rattle.json.specs.Value.{items_view}
use Rattle.relay_core.specs.Views.{entries_view}
use Rattle.relay_responses.specs.Read.{some_items}
use Rattle.relay_responses.specs.Logs.{entry_in}
use Rattle.relay_responses.proofs.logs.entries_of.Given as goal

abbrev pub invariant-loop-item : goal.invariant-loop-item
invariant-loop-item l =
    entries_view l.entries.items ++ some_items entry_in (items_view (drop l.item-index l.items)) ≡ some_items entry_in (items_view l.items)
