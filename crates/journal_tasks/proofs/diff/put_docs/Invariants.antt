-- The documents that are written and those that are left are all documents.
use Rattle.proof_prelude.proofs.{◌≡◌, ◌++◌, drop, flat_map, map}
use Rattle.journal_lines.specs.Docs.{doc_view}
use Rattle.journal_tasks.specs.Diffing.{diff_member}
use Rattle.journal_tasks.proofs.diff.put_docs.Given as goal

abbrev pub invariant-loop-index : goal.invariant-loop-index
invariant-loop-index l = record {
  before : l.writer.before ≡ l.fn.writer.before;
  tokens : l.writer.tokens ++ flat_map diff_member (map doc_view (drop l.index l.docs.entries)) ≡ l.fn.writer.tokens ++ flat_map diff_member (map doc_view l.docs.entries);
}
