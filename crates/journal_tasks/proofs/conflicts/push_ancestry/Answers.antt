use Rattle.proof_prelude.proofs.{ap, ap₂, arith, ◌∙◌, string_bytes}
use Rattle.journal_lines.specs.Leafs.{rev_at}
use Rattle.journal_tasks.proofs.{ancestor_written}
use Rattle.journal_tasks.proofs.conflicts.push_ancestry.Goals as goal

pub loop-index-preserved : goal.loop-index-preserved
loop-index-preserved c =
    ancestor_written c.args.leaf.now.start c.args.leaf.now.names.items c.loop-index.index c.index.result.now c.as_str-in-loop-index-2.result.now c.args.text.now.items c.loop-index.text.items c.push_comma.new.text.items c.push_rev-in-loop-index.new.out.items
    (omega (arith, c.loop-index-test.true, c.len-index-end.ensures)) (c.as_str-in-loop-index-2.ensures.value ∙ c.in_ok-rev.ensures ∙ ap₂ rev_at c.generation.ensures (c.as_str-in-loop-index.ensures.value ∙ ap string_bytes c.index.ensures)) c.loop-index.invariant c.in_ok-push_comma.ensures c.in_ok-push_rev.ensures
