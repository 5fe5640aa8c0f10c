use Rattle.proof_prelude.proofs.{◌≡◌, ◌+◌, ◌||◌, ◌∷◌, ◌++◌, List, drop, true, false, sym, ap, ◌∙◌, subst, arith, or_parts, drop_more}
use Rattle.json.specs.Print.{quoted}
use Rattle.serde_json.specs.Written.{comma_if, compact_text, items_text, members_text, has_float, items_have_float, members_have_float}
use Rattle.json_values.specs.{line_view, line_items, line_members, AreItemsPlain, AreMembersPlain}
use Rattle.json_values.proofs.{Named}
use Rattle.doc_json.specs.{ItemsReadBack, MembersReadBack}
use Rattle.doc_json.proofs.{item_pieces, member_pieces}
use Rattle.doc_json.proofs.line_value.+push.Goals as goal

pub push_items-loop-item-preserved : goal.push_items-loop-item-preserved
push_items-loop-item-preserved t c =
    let l = c.loop-item in
    let xs = c.args.items.now in
    let x = c.item-item.result in
    let left = drop (l.item-index + 1) xs in
    let here : drop l.item-index xs ≡ x ∷ left = drop_more xs l.item-index x (omega arith) ∙ ap (λ y. y ∷ left) (sym c.item-item.is) in
    let exact : (has_float (line_view x) || items_have_float (line_items left)) ≡ false = ap (λ ys. items_have_float (line_items ys)) (sym here) ∙ l.invariant.2 in
    let going : AreItemsPlain c.args.plain (line_items xs) → AreItemsPlain c.args.plain (line_items (x ∷ left)) = λ plain. subst (λ ys. AreItemsPlain c.args.plain (line_items ys)) here (l.invariant.0 plain).0 in (
      λ plain. (
        (going plain).1,
        item_pieces l.out.items (comma_if l.later) (compact_text (line_view x)) (items_text true (line_items left)) c.in_ok-push_comma.ensures (c.in_ok-push_value.ensures.text (going plain).0)
            ∙ ap (λ ys. l.out.items ++ items_text l.later (line_items ys)) (sym here) ∙ (l.invariant.0 plain).1,
      ),
      λ more. l.invariant.1 (subst (λ ys. ItemsReadBack (line_items ys)) (sym here) (c.in_ok-push_value.ensures.numbers, more)),
      (or_parts _ _ exact).1,
    )

pub push_members-loop-entry-preserved : goal.push_members-loop-entry-preserved
push_members-loop-entry-preserved t c =
    let l = c.loop-entry in
    let xs = c.args.members.now in
    let x = c.entry-item.result in
    let left = drop (l.entry-index + 1) xs in
    let here : drop l.entry-index xs ≡ x ∷ left = drop_more xs l.entry-index x (omega arith) ∙ ap (λ y. y ∷ left) (sym c.entry-item.is) in
    let exact : (has_float (line_view x.1) || members_have_float (line_members left)) ≡ false = ap (λ (ys : List Named). members_have_float (line_members ys)) (sym here) ∙ l.invariant.2 in
    let going : AreMembersPlain c.args.plain (line_members xs) → AreMembersPlain c.args.plain (line_members (x ∷ left)) = λ plain. subst (λ (ys : List Named). AreMembersPlain c.args.plain (line_members ys)) here (l.invariant.0 plain).0 in (
      λ plain. (
        (going plain).2,
        member_pieces l.out.items (comma_if l.later) (quoted x.0.now) (compact_text (line_view x.1)) (members_text true (line_members left)) (c.in_ok-push_name.ensures (going plain).0) (c.in_ok-push_value.ensures.text (going plain).1)
            ∙ ap (λ (ys : List Named). l.out.items ++ members_text l.later (line_members ys)) (sym here) ∙ (l.invariant.0 plain).1,
      ),
      λ more. l.invariant.1 (subst (λ (ys : List Named). MembersReadBack (line_members ys)) (sym here) (c.in_ok-push_value.ensures.numbers, more)),
      (or_parts _ _ exact).1,
    )
