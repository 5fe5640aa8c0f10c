-- One lexeme at a time: the first lexeme, and the rest.
use Rattle.proof_prelude.proofs.{◌≡◌, ℕ, ◌+◌, ◌<◌, false, List, [], ◌∷◌, length, drop, get_or, add-zero, lt_of_not-le, refl, sym, ap, ◌∙◌, arith, get_or_default, get_or_past, drop-drop, get_or-drop, true≢false}
use Rattle.json.specs.Token.{bad}
use Rattle.json.specs.Text.{content, plain}
use Rattle.json.specs.Word.{head, word}
use Rattle.json.specs.Lex.{Lexeme, token, Class, quote, backslash, operator, space, other, class, operator_lexeme, string_token, Mode, between, lex_byte, lex}
use Rattle.json.specs.Align.{is_blank}

abbrev pub first_lexeme : Class → List ℕ → Lexeme
first_lexeme quote t = token (string_token (content plain (drop 1 t)))
first_lexeme backslash t = token bad
first_lexeme operator t = operator_lexeme (head t)
first_lexeme space t = token bad
first_lexeme other t = token (word t)

first_is : (c : Class) (x : ℕ) (xs : List ℕ) (k : Mode → List Lexeme) → is_blank c ≡ false → lex_byte between c x xs k ≡ first_lexeme c (x ∷ xs) ∷ drop 1 (lex_byte between c x xs k)
first_is space x xs k h = absurd (true≢false h)
first_is _ x xs k h = refl

pub lex_first : (c : Class) (t : List ℕ) → class (head t) ≡ c → is_blank c ≡ false → lex between t ≡ first_lexeme c t ∷ drop 1 (lex between t)
lex_first c [] e h = unfold lex in absurd (true≢false (ap is_blank e ∙ h))
lex_first c (x ∷ xs) e h = unfold lex in first_is (class x) x xs (λ n. lex n xs) (ap is_blank e ∙ h) ∙ ap (λ k. first_lexeme k (x ∷ xs) ∷ drop 1 (lex between (x ∷ xs))) e

pub lex-nil : lex between [] ≡ []
lex-nil = unfold lex in refl

pub record AtQuote (d : List ℕ) (p : ℕ) : Type 0 where
  pub within : p < length d
  pub byte : get_or d p 0 ≡ 34
  pub spaced : get_or d p 32 ≡ 34
  pub rest : drop 1 (drop p d) ≡ drop (p + 1) d

pub quote_at : (d : List ℕ) (p : ℕ) → head (drop p d) ≡ 34 → AtQuote d p
quote_at d p e =
    let here : get_or d p 32 ≡ 34 = ap (λ j. get_or d j 32) (sym (add-zero p)) ∙ sym (get_or-drop p d 0 32) ∙ e in
    let within : p < length d = lt_of_not-le (λ h. omega (arith, get_or_past d p 32 h)) in
    record { within = within; byte = get_or_default d p 0 32 within ∙ here; spaced = here; rest = drop-drop 1 p d }
