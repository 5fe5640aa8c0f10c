use Rattle.proof_prelude.proofs.{◌≡◌, ◌∷◌, sym, subst, IsStrictlySortedBy, keys_of, string_cmp}
use Rattle.serde_json.proofs.Views.{Entry}
use Rattle.json_values.specs.{AllBehind}
use Rattle.serde_json.specs.View.{members_view}
use Rattle.doc_json.proofs.{behind_first}
use Rattle.doc_json.proofs.owned_value.ValueJsonValue.next_member.Goals as goal

pub returns-in-Some-clause-order : goal.returns-in-Some-clause-order
returns-in-Some-clause-order c = λ rising.
    let e : Entry = (c.in-Some.name.now, c.in-Some.member.now) in
    let left = c.next.new.self in
    let step : c.args.members.now ≡ e ∷ left = c.in-Some.ensures.steps in
    let r = behind_first e left (subst (λ es. IsStrictlySortedBy string_cmp (keys_of es)) step rising) in
    (subst (λ k. AllBehind k (members_view left)) (sym c.as_str.ensures.value) r.0, tt, r.1)
