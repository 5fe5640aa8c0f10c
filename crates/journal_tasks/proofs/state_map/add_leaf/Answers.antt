use Rattle.proof_prelude.proofs.{option_map, string_bytes}
use Rattle.journal_tasks.specs.{state_or_none, state_view, states_view}
use Rattle.journal_tasks.proofs.{leaf_added}
use Rattle.journal_tasks.proofs.state_map.add_leaf.Goals as goal

pub returns : goal.returns
returns c =
    leaf_added (states_view c.args.states.now) (states_view c.put.new.states) (states_view c.put-2.new.states) (string_bytes c.in_ok-key.key) (string_bytes c.in_ok-again.again) c.args.id.now c.args.rev.now (state_or_none (option_map state_view c.in_ok-old.old)) (state_view c.in_ok-none.none) (state_view c.in_ok-before.before) (state_view c.in_ok-state.state)
    c.in_ok-key.ensures.ok c.in_ok-again.ensures.ok c.in_ok-old.ensures.states c.in_ok-old.ensures.old c.in_ok-before.ensures c.in_ok-state.ensures c.in_ok-put.ensures.states
