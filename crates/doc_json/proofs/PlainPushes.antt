-- One more member of an object whose members without a leading `_` are appended.
use Rattle.proof_prelude.proofs.{◌≡◌, ℕ, List, ◌∷◌, ◌++◌, Bool, true, false, if◌then◌else◌, sym, ap, ◌∙◌, subst, append_assoc, or_parts}
use Rattle.json.specs.Print.{quoted}
use Rattle.serde_json.specs.Data.{Data, Members, member}
use Rattle.serde_json.specs.Written.{comma_if, compact_text, members_text, has_float, members_have_float}
use Rattle.json_values.specs.{AllBehind, IsOrdered, IsInOrderOfNames}
use Rattle.doc_json.specs.{is_special, plain_members, AllReadBack, MembersReadBack}
use Rattle.doc_json.proofs.Outlines.{behind_plain}

module _ (name : List ℕ) (d : Data) (rest : Members) where
  seen_if : (b : Bool) → is_special name ≡ b → plain_members (member name d rest) ≡ (if b then plain_members rest else member name d (plain_members rest))
  seen_if b is = ap (λ t. if t then plain_members rest else member name d (plain_members rest)) is

  module _ (out new all : List ℕ) (later now : Bool) where
    pub text_step : (b : Bool) → is_special name ≡ b → (is_special name ≡ true → (now ≡ later) × (new ≡ out))
        → (is_special name ≡ false → (now ≡ true) × (new ≡ out ++ (comma_if later ++ (quoted name ++ 58 ∷ compact_text d))))
        → out ++ members_text later (plain_members (member name d rest)) ≡ all → new ++ members_text now (plain_members rest) ≡ all
    text_step true is special plain h =
        ap (λ t. t ++ members_text now (plain_members rest)) (special is).1 ∙ ap (λ t. out ++ members_text t (plain_members rest)) (special is).0
        ∙ ap (λ ms. out ++ members_text later ms) (sym (seen_if true is)) ∙ h
    text_step false is special plain h =
        let q = quoted name in
        let v = compact_text d in
        let left = members_text true (plain_members rest) in
        ap (λ t. t ++ members_text now (plain_members rest)) (plain is).1
        ∙ ap (λ t. (out ++ (comma_if later ++ (q ++ 58 ∷ v))) ++ members_text t (plain_members rest)) (plain is).0
        ∙ append_assoc out (comma_if later ++ (q ++ 58 ∷ v)) left ∙ ap (λ t. out ++ t) (append_assoc (comma_if later) (q ++ 58 ∷ v) left ∙ ap (λ t. comma_if later ++ t) (append_assoc q (58 ∷ v) left))
        ∙ ap (λ ms. out ++ members_text later ms) (sym (seen_if false is)) ∙ h

  module _ {P : Type 0} where
    pub numbers_step : (b : Bool) → is_special name ≡ b → (is_special name ≡ false → AllReadBack d) → (MembersReadBack (plain_members (member name d rest)) → P) → MembersReadBack (plain_members rest) → P
    numbers_step true is one h more = h (subst MembersReadBack (sym (seen_if true is)) more)
    numbers_step false is one h more = h (subst MembersReadBack (sym (seen_if false is)) (one is, more))

    pub order_step : (b : Bool) → is_special name ≡ b → AllBehind name rest → (is_special name ≡ false → IsOrdered d) → (IsInOrderOfNames (plain_members (member name d rest)) → P) → IsInOrderOfNames (plain_members rest) → P
    order_step true is behind one h more = h (subst IsInOrderOfNames (sym (seen_if true is)) more)
    order_step false is behind one h more = h (subst IsInOrderOfNames (sym (seen_if false is)) (behind_plain name rest behind, one is, more))

  pub exact_step : (b : Bool) → is_special name ≡ b → members_have_float (plain_members (member name d rest)) ≡ false → members_have_float (plain_members rest) ≡ false
  exact_step true is h = ap members_have_float (sym (seen_if true is)) ∙ h
  exact_step false is h = (or_parts (has_float d) _ (ap members_have_float (sym (seen_if false is)) ∙ h)).1
