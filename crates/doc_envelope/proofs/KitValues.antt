-- The results of the kit's reader for texts.
use Rattle.proof_prelude.proofs.{◌≡◌, ℕ, List, [], ◌∷◌, ◌++◌, ◌&&◌, ◌==◌, map, drop, length, Bool, true, false, cond, refl, sym, ap, ◌∙◌, append-nil, suc, arith, Some, None, option_and_then, Result, Ok, Err, IfOk, Global, IsUtf8, list_all, Bor, is_utf8, IsUtf8-from_is_utf8, is_utf8-from_IsUtf8, IsUtf8-nil, filter}
use Rattle.json.specs.Json.{Json, document}
use Rattle.json.specs.Token.{Token, string}
use Rattle.json.specs.Print.{print, print_from, quoted}
use Rattle.json.specs.Find.{as_str}
use Rattle.json.specs.Value.{value_view, members_of as view_of}
use Rattle.json.specs.declared.value.Value.{Value}
use Rattle.doc_envelope.specs.{is_json, members_in, members_of, joined, string_of, is_envelope, is_envelope_value, may_stand, all_may_stand, goes, enveloped, envelope_of, unfolded, if_json, all_taken}
use Rattle.doc_envelope.specs.Members.{Outside}
use Rattle.doc_envelope.proofs.Folds.{taken_some}

-- ---- values

pub value_string : (t : List ℕ) (j : Json) → IsUtf8 t → document t ≡ Some j → as_str j ≡ string_of t
value_string t j u e = ap (option_and_then as_str) (sym e) ∙ sym (ap (λ b. cond b (option_and_then as_str (document t)) None) (is_utf8-from_IsUtf8 t u))

pub no_string : (t : List ℕ) → (IsUtf8 t → document t ≡ None) → None ≡ string_of t
no_string t h = by_utf8 (is_utf8 t) refl where
  by_utf8 : (b : Bool) → is_utf8 t ≡ b → None ≡ cond b (option_and_then as_str (document t)) None
  by_utf8 true e = ap (option_and_then as_str) (sym (h (IsUtf8-from_is_utf8 t e)))
  by_utf8 false e = refl

pub value_envelope : (t : List ℕ) (j : Json) → IsUtf8 t → document t ≡ Some j → is_envelope_value (Some j) ≡ is_envelope t
value_envelope t j u e = ap is_envelope_value (sym e) ∙ sym (ap (λ b. b && is_envelope_value (document t)) (is_utf8-from_IsUtf8 t u))

pub no_envelope : (t : List ℕ) → (IsUtf8 t → document t ≡ None) → false ≡ is_envelope t
no_envelope t h = by_utf8 (is_utf8 t) refl where
  by_utf8 : (b : Bool) → is_utf8 t ≡ b → false ≡ (b && is_envelope_value (document t))
  by_utf8 true e = ap is_envelope_value (sym (h (IsUtf8-from_is_utf8 t e)))
  by_utf8 false e = refl

pub all_view : (ms : List (Bor (List ℕ) × Value Global)) → list_all (λ m. may_stand m.0.now (value_view m.1)) ms ≡ all_may_stand (view_of (map (λ m. (m.0, value_view m.1)) ms))
all_view [] = refl
all_view (m ∷ ms) = ap (λ b. may_stand m.0.now (value_view m.1) && b) (all_view ms)

-- ---- at the end

pub empty_utf8 : (t : List ℕ) → (length t == 0) ≡ true → true ≡ is_utf8 t
empty_utf8 [] h = sym (is_utf8-from_IsUtf8 [] IsUtf8-nil)
empty_utf8 (b ∷ t) h = absurd (never (length t) h) where
  never : (n : ℕ) → (suc n == 0) ≡ true → ⊥
  never n h = grind arith

-- a string that is printed alone
pub quoted_alone : (s : List ℕ) → print (string s ∷ []) ≡ quoted s
quoted_alone s = unfold print_from in append-nil (quoted s)

pub quoted_behind : (made text said result : List ℕ) (tokens : List Token) → result ≡ made ++ print tokens → tokens ≡ string said ∷ [] → said ≡ text → result ≡ made ++ quoted text
quoted_behind made text said result tokens e f g = e ∙ ap (λ ts. made ++ print ts) f ∙ ap (λ t. made ++ t) (quoted_alone said) ∙ ap (λ s. made ++ quoted s) g

-- an envelope is complete
pub put_end : {E : Type 0} (x made held : List ℕ) (r : Result Bool E) → made ≡ envelope_of x → held ≡ joined (filter goes (members_of x)) → is_utf8 held ≡ true
    → IfOk r (λ ok. ok ≡ is_envelope made) → IfOk r (λ ok. enveloped x ≡ cond ok (Some made) None)
put_end x made held (Ok b) e f u k =
    ap (λ c. cond c (Some (envelope_of x)) None) (ap (λ c. c && is_envelope (envelope_of x)) (ap is_utf8 (sym f) ∙ u) ∙ sym (k ∙ ap is_envelope e)) ∙ ap (λ t. cond b (Some t) None) (sym e)
put_end x made held (Err w) e f u k = tt

-- the wrapped members are not UTF-8
pub put_none : (x held : List ℕ) → held ≡ joined (filter goes (members_of x)) → is_utf8 held ≡ false → enveloped x ≡ None
put_none x held f u = ap (λ c. cond (c && is_envelope (envelope_of x)) (Some (envelope_of x)) None) (ap is_utf8 (sym f) ∙ u)

-- the brace that closes the unwrapped document
pub taken_end : {E : Type 0} (x t u v : List ℕ) (r : Result Bool E) → all_taken (123 ∷ []) (members_in Outside 0 [] (drop 1 x)) ≡ Some t → u ≡ t ++ 125 ∷ [] → v ≡ u
    → IfOk r (λ json. json ≡ is_json u) → IfOk r (λ ok. unfolded x ≡ cond ok (Some v) None)
taken_end x t u v (Ok b) h e f k = taken_some x t h ∙ ap if_json (sym e) ∙ ap (λ c. cond c (Some u) None) (sym k) ∙ ap (λ z. cond b (Some z) None) (sym f)
taken_end x t u v (Err w) h e f k = tt
