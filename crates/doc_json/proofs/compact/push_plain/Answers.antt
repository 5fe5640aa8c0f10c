use Rattle.proof_prelude.proofs.{◌++◌, ap, ◌∙◌, refl, sym, subst}
use Rattle.serde_json.specs.Written.{members_text, members_have_float}
use Rattle.json_values.specs.{IsInOrderOfNames, AreMembersPlain}
use Rattle.doc_json.specs.{is_special, plain_members, MembersReadBack}
use Rattle.doc_json.proofs.{text_step, numbers_step, order_step, exact_step}
use Rattle.doc_json.proofs.compact.push_plain.Goals as goal

pub loop-name-preserved : goal.loop-name-preserved
loop-name-preserved g c =
    let l = c.loop-name in
    let e = c.in_ok-later.ensures in
    let name = c.in-Some.name.now in
    let d = g.V.JsonValue.seen c.in-Some.member.now in
    let rest = g.V.JsonValue.left c.next_member.new.members in
    let s = ap plain_members c.in-Some.ensures.members in
    let o = c.in-Some.ensures.order l.invariant.ordered in
    let new = c.push_unless_special.new.out.items in
    record {
      text = text_step name d rest l.out.items new _ l.later c.in_ok-later.later (is_special name) refl e.special e.plain (ap (λ ms. l.out.items ++ members_text l.later ms) (sym s) ∙ l.invariant.text);
      numbers = numbers_step name d rest (is_special name) refl e.numbers (λ more. l.invariant.numbers (subst MembersReadBack (sym s) more));
      exact = exact_step name d rest (is_special name) refl (ap members_have_float (sym s) ∙ l.invariant.exact);
      plain = (subst (AreMembersPlain c.args.plain) c.in-Some.ensures.members l.invariant.plain).2;
      order = order_step name d rest (is_special name) refl o.0 e.order (λ more. l.invariant.order (subst IsInOrderOfNames (sym s) more));
      ordered = o.2;
    }
