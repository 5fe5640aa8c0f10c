use Rattle.proof_prelude.proofs.{◌≡◌, drop}
use Rattle.json_values.specs.{line_items, line_members}
use Rattle.serde_json.specs.Written.{items_have_float, members_have_float}
use Rattle.doc_json.proofs.line_value.+fraction.Given as goal

-- no item so far has one
abbrev pub invariant-items_have_fraction-loop-item : goal.invariant-items_have_fraction-loop-item
invariant-items_have_fraction-loop-item l =
    items_have_float (line_items (drop l.item-index l.items)) ≡ items_have_float (line_items l.items)

-- no member so far has one
abbrev pub invariant-members_have_fraction-loop-entry : goal.invariant-members_have_fraction-loop-entry
invariant-members_have_fraction-loop-entry l =
    members_have_float (line_members (drop l.entry-index l.members)) ≡ members_have_float (line_members l.members)
