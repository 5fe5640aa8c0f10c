use Rattle.proof_prelude.proofs.{◌≡◌, ◌-◌, length, drop}
use Rattle.json_values.specs.{line_items}
use Rattle.json_values.proofs.arena.are_same_texts.Given as goal

-- the arrays are equal if the remaining items are
abbrev pub invariant-items : goal.invariant-items
invariant-items l = (line_items (drop l.i l.a) ≡ line_items (drop l.i l.b)) → line_items l.a ≡ line_items l.b

abbrev pub decreases-items : goal.decreases-items
decreases-items l = length l.a - l.i
