use Rattle.proof_prelude.proofs.{◌≡◌, ◌++◌, ◌∷◌, false}
use Rattle.serde_json.specs.Written.{members_text, members_have_float}
use Rattle.json_values.specs.{IsInOrderOfNames, AreMembersPlain}
use Rattle.doc_json.specs.{plain_members, MembersReadBack}
use Rattle.doc_json.proofs.{count}
use Rattle.doc_json.proofs.compact.push_plain.Given as goal

-- what is written and the remaining plain members are the object's text
abbrev pub invariant-loop-name : goal.invariant-loop-name
invariant-loop-name g l =
    let left = plain_members (g.V.JsonValue.left l.left) in
    let all = plain_members (g.V.JsonValue.members_seen l.members) in
    record {
      text : l.out.items ++ members_text l.later left ≡ l.fn.out.items ++ 123 ∷ members_text false all;
      numbers : MembersReadBack left → MembersReadBack all;
      exact : members_have_float left ≡ false;
      plain : AreMembersPlain l.plain (g.V.JsonValue.left l.left);
      order : IsInOrderOfNames left → IsInOrderOfNames all;
      ordered : g.V.JsonValue.left_in_order l.left;
    }

abbrev pub decreases-loop-name : goal.decreases-loop-name
decreases-loop-name g l = count (g.V.JsonValue.left l.left)
