use Rattle.journal_tasks.proofs.{doc_counted, doc_printed}
use Rattle.journal_tasks.proofs.conflicts.push_docs.Goals as goal

pub loop-index-preserved : goal.loop-index-preserved
loop-index-preserved c = record {
  text = doc_printed c.args.docs.now.entries c.loop-index.index c.in-Some.id.now c.in-Some.revs.now _ _ _ _ _ c.in-Some.ensures.entry c.as_str.ensures.value c.as_slice.ensures.value c.in_ok-is_found.ensures.text c.loop-index.invariant.text;
  found = doc_counted c.args.docs.now.entries c.loop-index.index c.in-Some.id.now c.in-Some.revs.now _ _ _ _ _ _ c.in-Some.ensures.entry c.as_str.ensures.value c.as_slice.ensures.value c.in_ok-is_found.ensures.found c.in_ok-found.ensures c.loop-index.invariant.found;
}
