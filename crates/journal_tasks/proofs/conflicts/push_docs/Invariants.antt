-- The documents so far, and those that are left, are all documents.
use Rattle.proof_prelude.proofs.{◌≡◌, ◌+◌, ◌++◌, drop, filter, flat_map, length, map}
use Rattle.journal_tasks.specs.{conflict_text, histories_view, is_in_conflict}
use Rattle.journal_tasks.proofs.{doc_heads}
use Rattle.journal_tasks.proofs.conflicts.push_docs.Given as goal

abbrev pub invariant-loop-index : goal.invariant-loop-index
invariant-loop-index l = record {
  text : l.text.items ++ flat_map conflict_text (map doc_heads (drop l.index l.docs.entries)) ≡ l.fn.text.items ++ flat_map conflict_text (histories_view l.docs);
  found : l.found + length (filter is_in_conflict (map doc_heads (drop l.index l.docs.entries))) ≡ length (filter is_in_conflict (histories_view l.docs));
}
