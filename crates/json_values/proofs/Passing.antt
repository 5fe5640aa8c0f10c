-- What the lexer skips, at an index of the text.
use Rattle.proof_prelude.proofs.{◌≡◌, ℕ, suc, ◌+◌, ◌<◌, ◌≤◌, Bool, true, false, ◌&&◌, ◌||◌, ◌==◌, cond, List, [], ◌∷◌, length, drop, get_or, Option, Some, None, refl, sym, ap, ◌∙◌, arith, drop-drop, false≢true, or_parts, not-true, and_parts, drop_more, prefix_len, is_digit, eqb-true}
use Rattle.json.specs.Text.{Within, content, code_unit}
use Rattle.json.specs.Word.{is_operator, is_space, head}
use Rattle.json.specs.Lex.{Lexeme, Class, quote, backslash, operator, space, other, class, Mode, between, in_string, in_escape, lex_byte, lex}
use Rattle.json.specs.Align.{is_blank}
use Rattle.json.specs.Run.{is_plain}
use Rattle.json_values.specs.{mode, Escape}
use Rattle.json_values.proofs.Content.{four, is_found, all_hex}

-- ---- between lexemes

blank_byte : (c : Class) (x : ℕ) (xs : List ℕ) (k : Mode → List Lexeme) → is_blank c ≡ true → lex_byte between c x xs k ≡ k between
blank_byte space x xs k h = refl
blank_byte _ x xs k h = absurd (false≢true h)

pub lex-blank : (d : List ℕ) (i : ℕ) → i < length d → is_blank (class (get_or d i 0)) ≡ true → lex between (drop i d) ≡ lex between (drop (i + 1) d)
lex-blank d i h e = unfold lex in ap (lex between) (drop_more d i 0 h) ∙ blank_byte (class (get_or d i 0)) (get_or d i 0) (drop (i + 1) d) (λ m. lex m (drop (i + 1) d)) e

abbrev is_mark : Class → Bool
is_mark operator = true
is_mark _ = false

mark_byte : (c : Class) (x : ℕ) (xs : List ℕ) (k : Mode → List Lexeme) → is_mark c ≡ true → drop 1 (lex_byte between c x xs k) ≡ k between
mark_byte operator x xs k h = refl
mark_byte _ x xs k h = absurd (false≢true h)

-- an operator is one lexeme
pub lex-operator : (t : List ℕ) → class (head t) ≡ operator → (0 < length t) × (drop 1 (lex between t) ≡ lex between (drop 1 t))
lex-operator [] e = unfold lex in absurd (false≢true (ap is_mark e))
lex-operator (x ∷ xs) e = unfold lex in (omega arith, mark_byte (class x) x xs (λ m. lex m xs) (ap is_mark e))

-- ---- inside a string

pub lex-quote : (t : List ℕ) → head t ≡ 34 → drop 1 (lex between t) ≡ lex in_string (drop 1 t)
lex-quote [] e = unfold lex in let no : ⊥ = omega (arith, e) in absurd no
lex-quote (x ∷ xs) e = unfold lex in ap (λ y. drop 1 (lex between (y ∷ xs))) e

stays_inside : (o s : Bool) (x : ℕ) (r : List ℕ) (k : Mode → List Lexeme) → lex_byte in_string (cond o operator (cond s space other)) x r k ≡ k in_string
stays_inside true s x r k = refl
stays_inside false true x r k = refl
stays_inside false false x r k = refl

in_string-other : (x : ℕ) (xs : List ℕ) → (x == 34) ≡ false → (x == 92) ≡ false → lex in_string (x ∷ xs) ≡ lex in_string xs
in_string-other x xs q b = unfold lex in
    (λ i. lex_byte in_string (cond (q i) quote (cond (b i) backslash (cond (is_operator x) operator (cond (is_space x) space other)))) x xs (λ m. lex m xs))
    ∙ stays_inside (is_operator x) (is_space x) x xs (λ m. lex m xs)

run_byte : (p : Bool) (x n : ℕ) (xs : List ℕ) → p ≡ is_plain x → lex in_string xs ≡ lex in_string (drop n xs) → lex in_string (x ∷ xs) ≡ lex in_string (drop (cond p (1 + n) 0) (x ∷ xs))
run_byte false x n xs e ih = refl
run_byte true x n xs e ih =
    let next : suc n ≡ 1 + n = omega arith in
    let none = or_parts ((x == 34) || (x == 92)) _ (not-true _ (sym e)) in
    let tests = or_parts (x == 34) _ none.0 in
    in_string-other x xs tests.0 tests.1 ∙ ih ∙ ap (λ k. lex in_string (drop k (x ∷ xs))) next

in_string-run : (xs : List ℕ) → lex in_string xs ≡ lex in_string (drop (prefix_len is_plain xs) xs)
in_string-run [] = refl
in_string-run (x ∷ xs) = run_byte (is_plain x) x (prefix_len is_plain xs) xs refl (in_string-run xs)

pub in_string-to_stop : (d : List ℕ) (i stop : ℕ) → stop ≡ i + prefix_len is_plain (drop i d) → lex in_string (drop i d) ≡ lex in_string (drop stop d)
in_string-to_stop d i stop is = in_string-run (drop i d) ∙ ap (lex in_string) (drop-drop _ i d ∙ ap (λ k. drop k d) (sym is))

pub in_string-quote : (d : List ℕ) (i : ℕ) → i < length d → get_or d i 0 ≡ 34 → lex in_string (drop i d) ≡ lex between (drop (i + 1) d)
in_string-quote d i h e = unfold lex in ap (lex in_string) (drop_more d i 0 h ∙ ap (λ x. x ∷ drop (i + 1) d) e)

pub in_string-backslash : (d : List ℕ) (i : ℕ) → i < length d → get_or d i 0 ≡ 92 → lex in_string (drop i d) ≡ lex in_escape (drop (i + 1) d)
in_string-backslash d i h e = unfold lex in ap (lex in_string) (drop_more d i 0 h ∙ ap (λ x. x ∷ drop (i + 1) d) e)

pub in_escape-any : (d : List ℕ) (i : ℕ) → i < length d → lex in_escape (drop i d) ≡ lex in_string (drop (i + 1) d)
in_escape-any d i h = unfold lex in ap (lex in_escape) (drop_more d i 0 h)

not_this : (c x : ℕ) (t : Bool) → (t ≡ true → x ≡ c) → is_digit c 16 ≡ false → is_digit x 16 ≡ true → t ≡ false
not_this c x false e never h = refl
not_this c x true e never h = absurd (false≢true (sym never ∙ ap (λ y. is_digit y 16) (sym (e refl)) ∙ h))

in_string-hex : (x : ℕ) (xs : List ℕ) → is_digit x 16 ≡ true → lex in_string (x ∷ xs) ≡ lex in_string xs
in_string-hex x xs h = in_string-other x xs (not_this 34 x (x == 34) (eqb-true x 34) refl h) (not_this 92 x (x == 92) (eqb-true x 92) refl h)

in_string-four : (a b c d : ℕ) (xs : List ℕ) → is_found (code_unit a b c d) ≡ true → lex in_string (a ∷ b ∷ c ∷ d ∷ xs) ≡ lex in_string xs
in_string-four a b c d xs h = unfold code_unit in
    let p = and_parts (is_digit a 16 && is_digit b 16 && is_digit c 16) (is_digit d 16) (all_hex _ _ h) in
    let q = and_parts (is_digit a 16 && is_digit b 16) (is_digit c 16) p.0 in
    let r = and_parts (is_digit a 16) (is_digit b 16) q.0 in
    in_string-hex a (b ∷ c ∷ d ∷ xs) r.0 ∙ in_string-hex b (c ∷ d ∷ xs) r.1 ∙ in_string-hex c (d ∷ xs) q.1 ∙ in_string-hex d xs p.1

-- the four hex digits of a code unit
pub in_string-unit : (d : List ℕ) (i u : ℕ) → i + 4 ≤ length d → code_unit (get_or d i 0) (get_or d (i + 1) 0) (get_or d (i + 2) 0) (get_or d (i + 3) 0) ≡ Some u → lex in_string (drop i d) ≡ lex in_string (drop (i + 4) d)
in_string-unit d i u h e = ap (lex in_string) (four d i h) ∙ in_string-four _ _ _ _ (drop (i + 4) d) (ap is_found e)

-- the second half of a surrogate pair
pub in_string-low_half : (d : List ℕ) (i u : ℕ) → i + 6 ≤ length d → get_or d i 0 ≡ 92 → code_unit (get_or d (i + 2) 0) (get_or d (i + 2 + 1) 0) (get_or d (i + 2 + 2) 0) (get_or d (i + 2 + 3) 0) ≡ Some u
    → lex in_string (drop i d) ≡ lex in_string (drop (i + 6) d)
in_string-low_half d i u h b e =
    let two : i + 1 + 1 ≡ i + 2 = omega arith in
    let six : i + 2 + 4 ≡ i + 6 = omega arith in
    in_string-backslash d i (omega arith) b ∙ in_escape-any d (i + 1) (omega arith) ∙ ap (λ k. lex in_string (drop k d)) two
    ∙ in_string-unit d (i + 2) u (omega arith) e ∙ ap (λ k. lex in_string (drop k d)) six

-- an escape that continues at a later index
pub escape_from : (d : List ℕ) (i j : ℕ) (w v : Within) (r : Option (ℕ × ℕ)) → content w (drop i d) ≡ content v (drop j d) → lex (mode w) (drop i d) ≡ lex (mode v) (drop j d) → i ≤ j → Escape d v j r → Escape d w i r
escape_from d i j w v None same passed le e = same ∙ e
escape_from d i j w v (Some p) same passed le e = (same ∙ e.0, omega (arith, e.1), e.2, omega (arith, e.3), e.4, passed ∙ e.5)
