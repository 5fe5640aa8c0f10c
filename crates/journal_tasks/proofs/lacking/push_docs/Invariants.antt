-- The documents that are printed and those that are left are all documents.
use Rattle.proof_prelude.proofs.{◌≡◌, ◌++◌, drop, flat_map, map}
use Rattle.journal_lines.specs.Docs.{doc_view, docs_view}
use Rattle.journal_tasks.specs.Documents.{has_rev}
use Rattle.journal_tasks.specs.Missing.{missing_line}
use Rattle.journal_tasks.proofs.lacking.push_docs.Given as goal

abbrev pub invariant-loop-index : goal.invariant-loop-index
invariant-loop-index l =
    l.text.items ++ flat_map (missing_line (has_rev (docs_view l.missing))) (map doc_view (drop l.index l.docs.entries)) ≡ l.fn.text.items ++ flat_map (missing_line (has_rev (docs_view l.missing))) (map doc_view l.docs.entries)
