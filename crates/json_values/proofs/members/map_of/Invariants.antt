use Rattle.proof_prelude.proofs.{◌≡◌, ◌++◌, into_iter_items}
use Rattle.json_values.proofs.members.map_of.Given as goal

-- the members so far and the remaining ones are in order
abbrev pub invariant-loop-name : goal.invariant-loop-name
invariant-loop-name g l = l.map.entries ++ into_iter_items l.name-iterator ≡ l.fn.entries.items
