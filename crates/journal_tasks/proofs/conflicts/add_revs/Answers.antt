use Rattle.proof_prelude.proofs.{ap, ap₂, arith, ◌∙◌, string_bytes}
use Rattle.journal_lines.specs.Docs.{add_rev}
use Rattle.journal_lines.specs.Leafs.{rev_at}
use Rattle.journal_lines.specs.Lists.{texts_of}
use Rattle.journal_tasks.proofs.{ancestor_stored, texts_added}
use Rattle.journal_tasks.proofs.conflicts.add_revs.Goals as goal

pub loop-index-init : goal.loop-index-init
loop-index-init c = ap texts_of c.in_ok-insert.ensures.keys ∙ texts_added c.args.revs.now.keys c.in_ok-from_str.field-0 ∙ ap (add_rev (texts_of c.args.revs.now.keys)) (c.in_ok-from_str.ensures.ok ∙ c.as_str.ensures.value)

pub loop-index-preserved : goal.loop-index-preserved
loop-index-preserved c =
    ancestor_stored c.args.leaf.now.start c.args.leaf.now.names.items c.loop-index.index c.index.result.now (string_bytes c.in_ok-rev_of.field-0) (string_bytes c.args.leaf.now.rev) (texts_of c.args.revs.now.keys) (texts_of c.loop-index.revs.keys) (texts_of c.insert-in-loop-index.new.self.keys)
    (omega (arith, c.loop-index-test.true, c.len-index-end.ensures)) (c.in_ok-rev_of.ensures ∙ ap₂ rev_at c.generation.ensures (c.as_str-name.ensures.value ∙ ap string_bytes c.index.ensures)) c.loop-index.invariant (ap texts_of c.in_ok-insert-2.ensures.keys ∙ texts_added c.loop-index.revs.keys c.in_ok-rev_of.field-0)
