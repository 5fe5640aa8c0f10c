use Rattle.proof_prelude.proofs.{◌≡◌, ◌+◌, [], ◌∷◌, ◌++◌, drop, true, string_bytes, sym, ap, ◌∙◌, subst, arith, or_parts, false≢true, drop_more, IsStrictlySortedBy, keys_of, string_cmp}
use Rattle.json.specs.Print.{quoted}
use Rattle.serde_json.specs.View.{view, items_view, members_view}
use Rattle.serde_json.specs.Written.{comma_if, compact_text, items_text, members_text, has_float, items_have_float, members_have_float}
use Rattle.serde_json.proofs.Views.{Entry}
use Rattle.json_values.specs.{AreOrdered, IsInOrderOfNames}
use Rattle.doc_json.specs.{ItemsReadBack, MembersReadBack}
use Rattle.doc_json.proofs.{behind_first, item_pieces, member_pieces}
use Rattle.doc_json.proofs.owned_value.+push.Goals as goal

pub push_items-loop-item-preserved : goal.push_items-loop-item-preserved
push_items-loop-item-preserved t c =
    let l = c.loop-item in
    let xs = c.deref-item-items.result.now in
    let x = c.item-item.result in
    let left = drop (l.item-index + 1) xs in
    let here : drop l.item-index xs ≡ x ∷ left = drop_more xs l.item-index x (omega arith) ∙ ap (λ y. y ∷ left) (sym c.item-item.is) in
    let s = ap items_view here in
    let w = c.in_ok-push_value.ensures in
    record {
      text = item_pieces l.out.items (comma_if l.later) (compact_text (view x)) (items_text true (items_view left)) c.in_ok-push_comma.ensures w.text
          ∙ ap (λ ds. l.out.items ++ items_text l.later ds) (sym s) ∙ l.invariant.text;
      numbers = λ more. l.invariant.numbers (subst ItemsReadBack (sym s) (w.numbers, more));
      exact = (or_parts (has_float (view x)) _ (ap items_have_float (sym s) ∙ l.invariant.exact)).1;
      order = λ more. l.invariant.order (subst AreOrdered (sym s) (w.order, more));
    }

pub push_members-loop-name-preserved : goal.push_members-loop-name-preserved
push_members-loop-name-preserved t c =
    let l = c.loop-name in
    let e : Entry = (c.in-Some.name.now, c.in-Some.member.now) in
    let left = c.next.new.self in
    let step : l.name-iterator ≡ e ∷ left = c.in-Some.ensures.steps in
    let s = ap members_view step in
    let rising = behind_first e left (subst (λ es. IsStrictlySortedBy string_cmp (keys_of es)) step l.invariant.rising) in
    let w = c.in_ok-push_value.ensures in
    let named = c.in_ok-push_name.ensures (λ known. absurd (false≢true known)) ∙ ap (λ name. l.out.items ++ (comma_if l.later ++ (quoted name ++ 58 ∷ []))) c.as_str.ensures.value in
    record {
      text = member_pieces l.out.items (comma_if l.later) (quoted (string_bytes e.0)) (compact_text (view e.1)) (members_text true (members_view left)) named w.text
          ∙ ap (λ ms. l.out.items ++ members_text l.later ms) (sym s) ∙ l.invariant.text;
      numbers = λ more. l.invariant.numbers (subst MembersReadBack (sym s) (w.numbers, more));
      exact = (or_parts (has_float (view e.1)) _ (ap members_have_float (sym s) ∙ l.invariant.exact)).1;
      order = λ more. l.invariant.order (subst IsInOrderOfNames (sym s) (rising.0, w.order, more));
      rising = rising.1;
    }
