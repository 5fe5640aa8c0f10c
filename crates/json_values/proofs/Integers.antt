-- Numbers that consist of a few digits.
use Rattle.proof_prelude.proofs.{◌≡◌, ◌≢◌, ℕ, ◌+◌, ◌-◌, ◌<◌, ◌≤◌, ◌^◌, Bool, true, false, ◌||◌, ◌==◌, cond, leb-true, List, length, take, drop, get_or, Some, refl, sym, ap, ◌∙◌, subst, arith, T, drop-drop, length-drop, false≢true, and_parts, get_or_default, drop-take, digit_at, is_ascii_digit, IsInRange, AllDigits, digits_value, ne_eqb, eq-eqb, eqb-true, get_or-take, length-take-le}
use Rattle.fast_float.specs.Text.{minus, scan, with_sign}
use Rattle.serde_json.specs.Data.{Num, unsigned, negative}
use Rattle.serde_json.specs.Read.{number_of, number_from}
use Rattle.json.specs.Token.{number}
use Rattle.json.specs.Word.{head, is_operator, is_space, ends_word, word, after_minus, after_whole, after_number, number_before}
use Rattle.json.specs.Lex.{Class, other, class, between, lex}
use Rattle.json_values.specs.{IntegerAt}
use Rattle.json_values.proofs.Lanes.{upto_sound}
use Rattle.json_values.proofs.NumberReads.{number_of-minus, number_of-no_minus, from_digits, below_digits}
use Rattle.json_values.proofs.Wording.{number_at}

-- a word that does not begin with a letter is a number
pub word-number : (t : List ℕ) → head t < 58 → word t ≡ number_before t (after_number t)
word-number t low = unfold word in
    let a : (head t == 116) ≡ false = ne_eqb _ _ (λ (e : head t ≡ 116). omega arith) in
    let b : (head t == 102) ≡ false = ne_eqb _ _ (λ (e : head t ≡ 102). omega arith) in
    let c : (head t == 110) ≡ false = ne_eqb _ _ (λ (e : head t ≡ 110). omega arith) in
    rw (a, b, c) refl

-- ---- words that begin with a digit, and the end of a word

pub digit_range : (x : ℕ) → is_ascii_digit x ≡ true → IsInRange 48 57 x
digit_range x e = let h = and_parts _ _ e in (leb-true 48 x h.0, leb-true x 57 h.1)

abbrev is_other : Class → Bool
is_other other = true
is_other _ = false

other_is : (c : Class) → T (is_other c) → c ≡ other
other_is other h = refl
other_is _ h = absurd h

digit_class : (x : ℕ) → IsInRange 48 57 x → class x ≡ other
digit_class x h =
    let back : 48 + (x - 48) ≡ x = omega (arith, h.0) in
    subst (λ y. class y ≡ other) back (other_is (class (48 + (x - 48))) (upto_sound (λ k. is_other (class (48 + k))) 10 tt (x - 48) (omega (arith, h.0, h.1))))

abbrev ender : ℕ → Bool
ender x = is_operator x || is_space x

no_ender : (u : List ℕ) (c : ℕ) → ender c ≡ false → ends_word u ≡ true → (head u == c) ≡ false
no_ender u c none ended = ne_eqb _ _ (λ (e : head u ≡ c). false≢true (sym none ∙ ap ender (sym e) ∙ ended))

ended_number : (t u : List ℕ) → after_whole (after_minus t) ≡ Some u → ends_word u ≡ true → after_number t ≡ Some u
ended_number t u whole ended = unfold after_number in
    let dot = no_ender u 46 refl ended in
    let lower = no_ender u 101 refl ended in
    let upper = no_ender u 69 refl ended in
    rw whole (rw dot (rw (lower, upper) refl))

-- a minus sign is one byte
minus_or_not : (d : List ℕ) (i start : ℕ) (b : Bool) → i ≤ start → start ≤ length d → (head (drop i d) == 45) ≡ b → drop start d ≡ cond b (drop 1 (drop i d)) (drop i d) → start ≢ i → (head (drop i d) ≡ 45) × (start ≡ i + 1)
minus_or_not d i start true from to first is apart =
    let long = ap length is in
    (eqb-true _ _ first, omega (arith, long, length-drop start d, length-drop 1 (drop i d), length-drop i d))
minus_or_not d i start false from to first is apart =
    let long = ap length is in
    absurd (apart (omega (arith, long, length-drop start d, length-drop i d)))

pub minus_place : (d : List ℕ) (i start : ℕ) → i ≤ start → start ≤ length d → drop start d ≡ after_minus (drop i d) → start ≢ i → (head (drop i d) ≡ 45) × (start ≡ i + 1)
minus_place d i start from to is apart = minus_or_not d i start (head (drop i d) == 45) from to refl is apart

-- ---- digits alone, and digits after a minus sign

module _ (d : List ℕ) (i len n : ℕ) (some : 0 < len) (small : n < 2 ^ 63) where
  pub plain_integer : i + len ≤ length d → AllDigits 10 (take len (drop i d)) → digits_value 10 (take len (drop i d)) ≡ n → after_whole (drop i d) ≡ Some (drop len (drop i d)) → ends_word (drop (i + len) d) ≡ true
      → IntegerAt d i (unsigned n) (i + len)
  plain_integer fits digits value whole ended =
      let t = drop i d in
      let s = take len t in
      let long : len ≤ length t = omega (arith, length-drop i d) in
      let size : length s ≡ len = length-take-le len t long in
      let first : get_or s 0 0 ≡ get_or t 0 0 = get_or-take len t 0 0 some in
      let range : IsInRange 48 57 (get_or s 0 0) = digit_at s 0 digits (omega (arith, size)) in
      let same : head t ≡ get_or t 0 0 = get_or_default t 0 32 0 (omega arith) in
      let no_minus : (head t == 45) ≡ false = ne_eqb _ _ (λ (e : head t ≡ 45). omega (arith, same, first, range.0)) in
      let rest : drop len t ≡ drop (i + len) d = drop-drop len i d in
      let span : (i + len) - i ≡ len = omega arith in
      let text : take ((i + len) - i) t ≡ s = ap (λ k. take k t) span in
      let sign : (get_or s 0 0 == minus) ≡ false = ne_eqb _ _ (λ (e : get_or s 0 0 ≡ 45). omega (arith, range.0)) in
      record {
        within = omega (arith, length-drop i d);
        from = omega arith;
        bound = fits;
        first = omega (arith, same, first, range.1);
        kind = digit_class (head t) (omega (arith, same, first, range.0), omega (arith, same, first, range.1));
        after = ended_number t _ (ap after_whole (ap (λ b. cond b (drop 1 t) t) no_minus) ∙ whole ∙ ap Some rest) ended;
        ended = ended;
        number = ap number_of text ∙ number_of-no_minus s sign ∙ from_digits s n (omega (arith, size)) digits value (omega arith);
      }

  pub minus_integer : i + 1 + len ≤ length d → head (drop i d) ≡ 45 → AllDigits 10 (take len (drop (i + 1) d)) → digits_value 10 (take len (drop (i + 1) d)) ≡ n → after_whole (drop (i + 1) d) ≡ Some (drop len (drop (i + 1) d))
      → ends_word (drop (i + 1 + len) d) ≡ true → 0 < n → IntegerAt d i (negative (with_sign true n)) (i + 1 + len)
  minus_integer fits minus_first digits value whole ended above =
      let t = drop i d in
      let behind : drop 1 t ≡ drop (i + 1) d = drop-drop 1 i d in
      let s = take (1 + len) t in
      let left : drop 1 s ≡ take len (drop (i + 1) d) = drop-take 1 len t ∙ ap (take len) behind in
      let first : get_or s 0 0 ≡ get_or t 0 0 = get_or-take (1 + len) t 0 0 (omega arith) in
      let same : head t ≡ get_or t 0 0 = get_or_default t 0 32 0 (omega (arith, length-drop i d)) in
      let is_minus : (head t == 45) ≡ true = eq-eqb _ _ minus_first in
      let rest : drop len (drop (i + 1) d) ≡ drop (i + 1 + len) d = drop-drop len (i + 1) d in
      let span : (i + 1 + len) - i ≡ 1 + len = omega arith in
      let text : take ((i + 1 + len) - i) t ≡ s = ap (λ k. take k t) span in
      let sign : (get_or s 0 0 == minus) ≡ true = eq-eqb _ _ (omega (arith, first, same, minus_first)) in
      let size : length (take len (drop (i + 1) d)) ≡ len = length-take-le len (drop (i + 1) d) (omega (arith, length-drop (i + 1) d)) in
      record {
        within = omega arith;
        from = omega arith;
        bound = fits;
        first = omega (arith, minus_first);
        kind = ap class minus_first;
        after = ended_number t _ (ap after_whole (ap (λ b. cond b (drop 1 t) t) is_minus ∙ behind) ∙ whole ∙ ap Some rest) ended;
        ended = ended;
        number = ap number_of text ∙ number_of-minus s sign ∙ ap (λ x. number_from true (scan x)) left ∙ below_digits (take len (drop (i + 1) d)) n (omega (arith, size)) digits value above (omega arith);
      }

-- the number at i is one word, and the next lexeme is searched after it
module _ (d : List ℕ) (i : ℕ) (n : Num) (end : ℕ) (at : IntegerAt d i n end) where
  pub integer_word : word (drop i d) ≡ number (take (end - i) (drop i d))
  integer_word = word-number (drop i d) at.first ∙ (number_at d i end at.within at.after at.from at.bound at.ended).0

  pub integer_passed : lex between (drop end d) ≡ drop 1 (lex between (drop i d))
  integer_passed = (number_at d i end at.within at.after at.from at.bound at.ended).4
