use Rattle.journal_tasks.proofs.{state_written}
use Rattle.journal_tasks.proofs.state_map.push_states.Goals as goal

pub loop-index-preserved : goal.loop-index-preserved
loop-index-preserved c =
    state_written c.args.states.now.entries c.loop-index.index c.in-Some.id.now c.in-Some.state.now _ _ _ _ _ _ c.in-Some.ensures.entry c.as_str.ensures.value c.as_str-in-loop-index.ensures.value c.as_slice.ensures.value c.in_ok-push_leaves.ensures c.loop-index.invariant
