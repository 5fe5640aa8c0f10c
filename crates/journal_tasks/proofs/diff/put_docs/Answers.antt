use Rattle.proof_prelude.proofs.{◌∙◌}
use Rattle.journal_tasks.specs.Diffing.{diff_member}
use Rattle.journal_tasks.proofs.{doc_written}
use Rattle.journal_tasks.proofs.diff.put_docs.Goals as goal

pub loop-index-preserved : goal.loop-index-preserved
loop-index-preserved c = record {
  before = c.in_ok-put_doc.ensures.before ∙ c.loop-index.invariant.before;
  tokens = doc_written diff_member c.args.docs.now.entries c.loop-index.index _ _ _ _ _ _ _ c.in-Some.ensures.entry c.as_str.ensures.value c.as_slice.ensures.keys c.in_ok-put_doc.ensures.tokens c.loop-index.invariant.tokens;
}
