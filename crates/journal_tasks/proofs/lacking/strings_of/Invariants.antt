-- The strings so far, and those that are left.
use Rattle.proof_prelude.proofs.{◌≡◌, drop}
use Rattle.json.specs.Value.{items_view}
use Rattle.journal_lines.specs.Lists.{prepend, revs_json, texts_of}
use Rattle.journal_tasks.proofs.lacking.strings_of.Given as goal

abbrev pub invariant-loop-item : goal.invariant-loop-item
invariant-loop-item l = prepend (texts_of l.strings.items) (revs_json (items_view (drop l.item-index l.items))) ≡ revs_json (items_view l.items)
