use Rattle.proof_prelude.proofs.{◌≡◌, drop}
use Rattle.json_values.specs.{line_items}
use Rattle.command_api.specs.{are_texts}
use Rattle.command_api.proofs.members.are_texts.Given as goal

-- each item so far is a string
abbrev pub invariant-loop-item : goal.invariant-loop-item
invariant-loop-item l = are_texts (line_items (drop l.item-index l.items)) ≡ are_texts (line_items l.items)
