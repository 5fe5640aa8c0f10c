-- The leaves that are selected, and those of the documents that are left.
use Rattle.proof_prelude.proofs.{◌≡◌, ◌||◌, ℕ, drop, map, option_map, string_bytes}
use Rattle.journal_tasks.specs.{has_number, is_number_of, lacks_number, number_at, selected_leaves, state_view, states_view}
use Rattle.journal_tasks.proofs.select.select_all.Given as goal

abbrev pub invariant-loop-index : goal.invariant-loop-index
invariant-loop-index l = record {
  lacks : (l.lacks || lacks_number (number_at l.numbers) (selected_leaves l.filter.several (option_map string_bytes l.filter.id) (map (λ entry. (string_bytes entry.0, state_view entry.1)) (drop l.index l.states.entries))))
      ≡ lacks_number (number_at l.numbers) (selected_leaves l.filter.several (option_map string_bytes l.filter.id) (states_view l.states));
  selected : (number : ℕ) → (has_number l.selected number || is_number_of (number_at l.numbers) (selected_leaves l.filter.several (option_map string_bytes l.filter.id) (map (λ entry. (string_bytes entry.0, state_view entry.1)) (drop l.index l.states.entries))) number)
      ≡ (has_number l.fn.selected number || is_number_of (number_at l.numbers) (selected_leaves l.filter.several (option_map string_bytes l.filter.id) (states_view l.states)) number);
}
