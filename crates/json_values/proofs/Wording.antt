-- Numbers and literals, and where the lexer continues after them.
use Rattle.proof_prelude.proofs.{◌≡◌, ℕ, ◌+◌, ◌-◌, ◌<◌, ◌≤◌, List, [], ◌∷◌, ◌++◌, length, take, drop, true, is_some, ◌&&◌, cond, nat_eq, Some, refl, sym, ap, ap₂, ◌∙◌, arith, drop-drop, length-append, false≢true, Decides-eqb, starts_is, starts_with, length-drop, length-take-le, take-append-drop}
use Rattle.json.specs.Token as spec
use Rattle.json.specs.Token.{number, bad}
use Rattle.json.specs.Word.{ends_word, literal, after_number, number_before}
use Rattle.json.specs.Lex.{between, lex}
use Rattle.json.specs.Align.{is_good}
use Rattle.json.proofs.Printed.Numbers.{number_alone, lex-number}
use Rattle.json_values.specs.{IsLiteral}

-- the word w is the good token t of n bytes at i, and the next lexeme is searched after it
abbrev pub Stands : List ℕ → ℕ → spec.Token → spec.Token → ℕ → Type 0
Stands d i w t end = (w ≡ t) × (is_good w ≡ true) × (i < end) × (end ≤ length d) × (lex between (drop end d) ≡ drop 1 (lex between (drop i d)))

pub literal_at : (d name : List ℕ) (t : spec.Token) (i : ℕ) → i < length d → IsLiteral name t → starts_with nat_eq (drop i d) name ≡ true → ends_word (drop (length name) (drop i d)) ≡ true
    → Stands d i (literal name t (drop i d)) t (i + length name)
literal_at d name t i within named begins ends =
    let is = (starts_is Decides-eqb (drop i d) name true (sym begins)).0 refl in
    let w : literal name t (drop i d) ≡ t = ap (λ b. cond b t bad) (ap₂ (λ a b. a && b) begins ends) in (
      w,
      ap is_good w ∙ named.1,
      omega (arith, named.0),
      omega (arith, ap length is, length-append name (drop (length name) (drop i d)), length-drop i d),
      ap (lex between) (sym (drop-drop (length name) i d)) ∙ named.2 (drop (length name) (drop i d)) ends ∙ ap (λ s. drop 1 (lex between s)) (sym is),
    )

some_byte : (s : List ℕ) → after_number s ≡ Some [] → 0 < length s
some_byte [] h = unfold after_number in absurd (false≢true (ap is_some h))
some_byte (x ∷ s) h = unfold after_number in omega arith

pub number_at : (d : List ℕ) (i end : ℕ) → i < length d → after_number (drop i d) ≡ Some (drop end d) → i ≤ end → end ≤ length d → ends_word (drop end d) ≡ true
    → Stands d i (number_before (drop i d) (after_number (drop i d))) (number (take (end - i) (drop i d))) end
number_at d i end within found up most ends =
    let s = take (end - i) (drop i d) in
    let r = drop end d in
    let back : drop (end - i) (drop i d) ≡ r = (drop-drop (end - i) i d) ∙ ap (λ k. drop k d) (omega arith) in
    let is : s ++ r ≡ drop i d = ap (λ x. s ++ x) (sym back) ∙ take-append-drop (end - i) (drop i d) in
    let alone = number_alone s r ends (ap after_number is ∙ found) in
    let next = sym (ap (lex between) is) ∙ lex-number s r alone ends in
    let size : length (drop i d) - length r ≡ end - i = omega (arith, length-drop i d, length-drop end d) in
    let w : number_before (drop i d) (after_number (drop i d)) ≡ number s = ap (number_before (drop i d)) found ∙ ap₂ (λ b k. cond b (number (take k (drop i d))) bad) ends size in (
      w,
      ap is_good w,
      omega (arith, some_byte s alone, length-take-le (end - i) (drop i d) (omega (arith, length-drop i d))),
      most,
      sym (ap (drop 1) next),
    )
