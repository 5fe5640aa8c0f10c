-- The states that are written and those that are left are all states.
use Rattle.proof_prelude.proofs.{◌≡◌, ◌++◌, drop, map, string_bytes}
use Rattle.journal_tasks.specs.{state_lines, state_view, states_view}
use Rattle.journal_tasks.proofs.state_map.push_states.Given as goal

abbrev pub invariant-loop-index : goal.invariant-loop-index
invariant-loop-index l = l.text.items ++ state_lines (map (λ entry. (string_bytes entry.0, state_view entry.1)) (drop l.index l.states.entries)) ≡ l.fn.text.items ++ state_lines (states_view l.states)
