-- What is appended and what is left are the lines of all entries.
use Rattle.proof_prelude.proofs.{◌≡◌, ◌++◌, ◌||◌, drop}
use Rattle.json.specs.Value.{items_view}
use Rattle.journal_responses.specs.Refusals.{any_refused, refused_text}
use Rattle.journal_responses.proofs.refused.push_entries.Given as goal

abbrev pub invariant-loop-entry : goal.invariant-loop-entry
invariant-loop-entry l = record {
  text : l.text.items ++ refused_text (items_view (drop l.entry-index l.entry-items)) ≡ l.fn.text.items ++ refused_text (items_view l.entry-items);
  refused : (l.refused || any_refused (items_view (drop l.entry-index l.entry-items))) ≡ any_refused (items_view l.entry-items);
}
