-- The strings that are read and those that are left are all strings.
use Rattle.proof_prelude.proofs.{◌≡◌, drop}
use Rattle.json.specs.Find.{as_str}
use Rattle.json.specs.Value.{items_view}
use Rattle.relay_core.specs.Views.{texts_of}
use Rattle.relay_responses.specs.Read.{prepend, each_item}
use Rattle.relay_responses.proofs.diffs.strings_of.Given as goal

abbrev pub invariant-loop-item : goal.invariant-loop-item
invariant-loop-item l =
    prepend (texts_of l.strings.items) (each_item as_str (items_view (drop l.item-index l.item-items))) ≡ each_item as_str (items_view l.item-items)
