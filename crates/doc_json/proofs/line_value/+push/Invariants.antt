use Rattle.proof_prelude.proofs.{◌≡◌, ◌++◌, ◌∷◌, drop, false}
use Rattle.json_values.specs.{line_items, line_members, AreItemsPlain, AreMembersPlain}
use Rattle.serde_json.specs.Written.{items_text, members_text, items_have_float, members_have_float}
use Rattle.doc_json.specs.{ItemsReadBack, MembersReadBack}
use Rattle.doc_json.proofs.line_value.+push.Given as goal

-- what is written and the remaining items are the array's text
abbrev pub invariant-push_items-loop-item : goal.invariant-push_items-loop-item
invariant-push_items-loop-item l =
    let left = line_items (drop l.item-index l.items) in
    (AreItemsPlain l.plain (line_items l.items)
    → AreItemsPlain l.plain left × (l.out.items ++ items_text l.later left ≡ l.fn.out.items ++ 91 ∷ items_text false (line_items l.items)))
    × (ItemsReadBack left → ItemsReadBack (line_items l.items)) × (items_have_float left ≡ false)

-- what is written and the remaining members are the object's text
abbrev pub invariant-push_members-loop-entry : goal.invariant-push_members-loop-entry
invariant-push_members-loop-entry l =
    let left = line_members (drop l.entry-index l.members) in
    (AreMembersPlain l.plain (line_members l.members)
    → AreMembersPlain l.plain left × (l.out.items ++ members_text l.later left ≡ l.fn.out.items ++ 123 ∷ members_text false (line_members l.members)))
    × (MembersReadBack left → MembersReadBack (line_members l.members)) × (members_have_float left ≡ false)
