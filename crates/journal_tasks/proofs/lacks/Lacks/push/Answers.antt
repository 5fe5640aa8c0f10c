use Rattle.journal_tasks.proofs.{line_written}
use Rattle.journal_tasks.proofs.lacks.Lacks.push.Goals as goal

pub loop-index-preserved : goal.loop-index-preserved
loop-index-preserved c =
    line_written c.args.self.now.lines.entries c.loop-index.index c.in-Some._id.now c.in-Some.line.now _ _ _ _ _ c.in-Some.ensures.entry c.as_slice.ensures.value c.in_ok-extend_from_slice.ensures.items c.in_ok-push.ensures.items c.loop-index.invariant
