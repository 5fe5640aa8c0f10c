use Rattle.proof_prelude.proofs.{◌≡◌, ◌++◌, ◌∷◌, drop, false, IsStrictlySortedBy, keys_of, string_cmp}
use Rattle.serde_json.specs.View.{items_view, members_view}
use Rattle.serde_json.specs.Written.{items_text, members_text, items_have_float, members_have_float}
use Rattle.json_values.specs.{AreOrdered, IsInOrderOfNames}
use Rattle.doc_json.specs.{ItemsReadBack, MembersReadBack}
use Rattle.doc_json.proofs.owned_value.+push.Given as goal

-- what is written and the remaining items are the array's text
abbrev pub invariant-push_items-loop-item : goal.invariant-push_items-loop-item
invariant-push_items-loop-item l =
    let left = items_view (drop l.item-index l.item-items) in
    let all = items_view l.item-items in
    record {
      text : l.out.items ++ items_text l.later left ≡ l.fn.out.items ++ 91 ∷ items_text false all;
      numbers : ItemsReadBack left → ItemsReadBack all;
      exact : items_have_float left ≡ false;
      order : AreOrdered left → AreOrdered all;
    }

-- what is written and the remaining members are the object's text
abbrev pub invariant-push_members-loop-name : goal.invariant-push_members-loop-name
invariant-push_members-loop-name l =
    let left = members_view l.name-iterator in
    let all = members_view l.members.entries in
    record {
      text : l.out.items ++ members_text l.later left ≡ l.fn.out.items ++ 123 ∷ members_text false all;
      numbers : MembersReadBack left → MembersReadBack all;
      exact : members_have_float left ≡ false;
      order : IsInOrderOfNames left → IsInOrderOfNames all;
      rising : IsStrictlySortedBy string_cmp (keys_of l.name-iterator);
    }
