use Rattle.journal_lines.specs.Docs.{docs_view}
use Rattle.journal_tasks.specs.Documents.{has_rev}
use Rattle.journal_tasks.specs.Missing.{missing_line}
use Rattle.journal_tasks.proofs.{doc_written}
use Rattle.journal_tasks.proofs.lacking.push_docs.Goals as goal

pub loop-index-preserved : goal.loop-index-preserved
loop-index-preserved c =
    doc_written (missing_line (has_rev (docs_view c.args.missing.now))) c.args.docs.now.entries c.loop-index.index _ _ _ _ _ _ _ c.in-Some.ensures.entry c.as_str.ensures.value c.as_slice.ensures.keys c.in_ok-push_doc.ensures c.loop-index.invariant
