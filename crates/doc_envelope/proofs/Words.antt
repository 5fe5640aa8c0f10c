-- The token of a word, if the word's end or a quotation mark follows.
use Rattle.proof_prelude.proofs.{◌≡◌, ℕ, zero, suc, ◌+◌, ◌-◌, List, [], ◌∷◌, ◌++◌, length, take, drop, Bool, true, false, not, cond, ◌&&◌, ◌||◌, ◌==◌, nat_eq, refl, sym, ap, ◌∙◌, Option, Some, None, option_and_then, option_map, is_ascii_digit, prefix_len, starts_with, eqb-true, arith, list_all, list_any, and_parts, and_assoc, or_parts, length-append}
use Rattle.std.proofs.lemmas.List.{drop-append-le, take-append-le}
use Rattle.std.proofs.lemmas.List.Sums.{prefix_len-le-length}
use Rattle.json.specs.Token.{Token, number, boolean, null, bad}
use Rattle.json.specs.Word.{is_operator, is_space, head, ends_word, after_digits, after_minus, after_sign, after_whole, after_fraction, after_exponent, after_number, number_before, word}
use Rattle.json.specs.Ascii as ascii

-- Whether a byte ends a word, or is a quotation mark.
abbrev pub stops : ℕ → Bool
stops c = is_operator c || is_space c || (c == 34)

abbrev pub inner : ℕ → Bool
inner c = not (stops c)

abbrev pub Clean : List ℕ → Type 0
Clean w = list_all inner w ≡ true

record Stop (c : ℕ) : Type 0 where
  digit : is_ascii_digit c ≡ false
  minus : (c == 45) ≡ false
  sign : ((c == 45) || (c == 43)) ≡ false
  zero : (c == 48) ≡ false
  dot : (c == 46) ≡ false
  exponent : ((c == 101) || (c == 69)) ≡ false

stop_of : (c : ℕ) → stops c ≡ true → Stop c
stop_of c h = record {
  digit = grind arith;
  minus = grind arith;
  sign = grind arith;
  zero = grind arith;
  dot = grind arith;
  exponent = grind arith;
}

no_stop : (c : ℕ) → inner c ≡ true → (is_operator c || is_space c) ≡ false
no_stop c h = (or_parts (is_operator c || is_space c) (c == 34) (not_false (stops c) h)).0 where
  not_false : (b : Bool) → not b ≡ true → b ≡ false
  not_false true h = sym h
  not_false false h = refl

-- ---- literals

abbrev literal_at : List ℕ → List ℕ → Bool
literal_at name t = starts_with nat_eq t name && ends_word (drop (length name) t)

apart : (n c : ℕ) → inner n ≡ true → stops c ≡ true → nat_eq n c ≡ false
apart n c h e = by (n == c) refl where
  clash : not (stops n) ≡ true → stops n ≡ true → ⊥
  clash h e = never (stops n) h e where
    never : (b : Bool) → not b ≡ true → b ≡ true → ⊥
    never true h e = absurd (cc)
    never false h e = absurd (cc)

  by : (b : Bool) → (n == c) ≡ b → nat_eq n c ≡ false
  by true k = absurd (clash h (ap stops (eqb-true n c k) ∙ e))
  by false k = k

literal_more : (n : ℕ) (name : List ℕ) (x : ℕ) (t : List ℕ) → literal_at (n ∷ name) (x ∷ t) ≡ (nat_eq n x && literal_at name t)
literal_more n name x t = and_assoc (nat_eq n x) (starts_with nat_eq t name) (ends_word (drop (length name) t))

module _ (c : ℕ) (stop : stops c ≡ true) where
  literal_same : (name w y z : List ℕ) → Clean name → literal_at name (w ++ c ∷ y) ≡ literal_at name (w ++ c ∷ z)
  literal_same [] [] y z h = refl
  literal_same [] (b ∷ w) y z h = refl
  literal_same (n ∷ name) [] y z h =
      let e = apart n c (and_parts (inner n) (list_all inner name) h).0 stop in
      literal_more n name c y ∙ ap (λ b. b && literal_at name y) e ∙ sym (ap (λ b. b && literal_at name z) e) ∙ sym (literal_more n name c z)
  literal_same (n ∷ name) (b ∷ w) y z h =
      literal_more n name b (w ++ c ∷ y) ∙ ap (λ x. nat_eq n b && x) (literal_same name w y z (and_parts (inner n) (list_all inner name) h).1)
      ∙ sym (literal_more n name b (w ++ c ∷ z))

  -- ---- numbers

  facts : Stop c
  facts = stop_of c stop

  module _ (y : List ℕ) where
    abbrev ext : Option (List ℕ) → Option (List ℕ)
    ext o = option_map (λ v. v ++ c ∷ y) o

    digits_len : (w : List ℕ) → prefix_len is_ascii_digit (w ++ c ∷ y) ≡ prefix_len is_ascii_digit w
    digits_len [] = ap (λ b. cond b (1 + prefix_len is_ascii_digit y) 0) facts.digit
    digits_len (b ∷ w) = ap (λ n. cond (is_ascii_digit b) (1 + n) 0) (digits_len w)

    some_digits : (b : Bool) (v t : List ℕ) → t ≡ v ++ c ∷ y → cond b None (Some t) ≡ ext (cond b None (Some v))
    some_digits true v t e = refl
    some_digits false v t e = ap Some e

    digits_ext : (w : List ℕ) → after_digits (w ++ c ∷ y) ≡ ext (after_digits w)
    digits_ext w =
        let k = prefix_len is_ascii_digit w in
        ap (λ n. cond (n == 0) None (Some (drop n (w ++ c ∷ y)))) (digits_len w)
        ∙ some_digits (k == 0) (drop k w) (drop k (w ++ c ∷ y)) (drop-append-le k w (c ∷ y) (prefix_len-le-length is_ascii_digit w))

    choose : (b : Bool) (u v : List ℕ) → cond b (u ++ c ∷ y) (v ++ c ∷ y) ≡ cond b u v ++ c ∷ y
    choose true u v = refl
    choose false u v = refl

    choose_option : (b : Bool) (o p r s : Option (List ℕ)) → o ≡ ext r → p ≡ ext s → cond b o p ≡ ext (cond b r s)
    choose_option true o p r s e f = e
    choose_option false o p r s e f = f

    minus_ext : (w : List ℕ) → after_minus (w ++ c ∷ y) ≡ after_minus w ++ c ∷ y
    minus_ext [] = ap (λ b. cond b y (c ∷ y)) facts.minus
    minus_ext (b ∷ w) = choose (b == 45) w (b ∷ w)

    sign_ext : (w : List ℕ) → after_sign (w ++ c ∷ y) ≡ after_sign w ++ c ∷ y
    sign_ext [] = ap (λ b. cond b y (c ∷ y)) facts.sign
    sign_ext (b ∷ w) = choose ((b == 45) || (b == 43)) w (b ∷ w)

    whole_ext : (w : List ℕ) → after_whole (w ++ c ∷ y) ≡ ext (after_whole w)
    whole_ext [] = ap (λ b. cond b (Some y) (after_digits (c ∷ y))) facts.zero ∙ digits_ext []
    whole_ext (b ∷ w) = choose_option (b == 48) (Some (w ++ c ∷ y)) (after_digits (b ∷ (w ++ c ∷ y))) (Some w) (after_digits (b ∷ w)) refl (digits_ext (b ∷ w))

    fraction_ext : (w : List ℕ) → after_fraction (w ++ c ∷ y) ≡ ext (after_fraction w)
    fraction_ext [] = ap (λ b. cond b (after_digits y) (Some (c ∷ y))) facts.dot
    fraction_ext (b ∷ w) = choose_option (b == 46) (after_digits (w ++ c ∷ y)) (Some (b ∷ (w ++ c ∷ y))) (after_digits w) (Some (b ∷ w)) (digits_ext w) refl

    exponent_ext : (w : List ℕ) → after_exponent (w ++ c ∷ y) ≡ ext (after_exponent w)
    exponent_ext [] = ap (λ b. cond b (after_digits (after_sign y)) (Some (c ∷ y))) facts.exponent
    exponent_ext (b ∷ w) =
        choose_option ((b == 101) || (b == 69)) (after_digits (after_sign (w ++ c ∷ y))) (Some (b ∷ (w ++ c ∷ y))) (after_digits (after_sign w)) (Some (b ∷ w))
        (ap after_digits (sign_ext w) ∙ digits_ext (after_sign w)) refl

    then_ext : (f : List ℕ → Option (List ℕ)) → ((v : List ℕ) → f (v ++ c ∷ y) ≡ ext (f v)) → (o p : Option (List ℕ)) → p ≡ ext o → option_and_then f p ≡ ext (option_and_then f o)
    then_ext f h None p e = ap (option_and_then f) e
    then_ext f h (Some v) p e = ap (option_and_then f) e ∙ h v

    number_ext : (w : List ℕ) → after_number (w ++ c ∷ y) ≡ ext (after_number w)
    unfolding after_number
    number_ext w =
        let whole = ap after_whole (minus_ext w) ∙ whole_ext (after_minus w) in
        let fraction = then_ext after_fraction fraction_ext (after_whole (after_minus w)) (after_whole (after_minus (w ++ c ∷ y))) whole in
        then_ext after_exponent exponent_ext (option_and_then after_fraction (after_whole (after_minus w))) (option_and_then after_fraction (after_whole (after_minus (w ++ c ∷ y)))) fraction

    read_length : (w v : List ℕ) → take (length (w ++ c ∷ y) - length (v ++ c ∷ y)) (w ++ c ∷ y) ≡ take (length w - length v) w
    read_length w v =
        let a = length-append w (c ∷ y) in
        let b = length-append v (c ∷ y) in
        let n : length (w ++ c ∷ y) - length (v ++ c ∷ y) ≡ length w - length v = omega (arith, a, b) in
        ap (λ k. take k (w ++ c ∷ y)) n ∙ take-append-le (length w - length v) w (c ∷ y) (omega arith)

    ends_ext : (v : List ℕ) → ends_word (v ++ c ∷ y) ≡ ends_word (v ++ c ∷ [])
    ends_ext [] = refl
    ends_ext (b ∷ v) = refl

    -- the token of a number, without what follows
    abbrev number_token : List ℕ → Option (List ℕ) → Token
    number_token w None = bad
    number_token w (Some v) = cond (ends_word (v ++ c ∷ [])) (number (take (length w - length v) w)) bad

    number_by : (w : List ℕ) (o p : Option (List ℕ)) → p ≡ ext o → number_before (w ++ c ∷ y) p ≡ number_token w o
    number_by w None p e = ap (number_before (w ++ c ∷ y)) e
    number_by w (Some v) p e =
        ap (number_before (w ++ c ∷ y)) e ∙ ap (λ b. cond b (number (take (length (w ++ c ∷ y) - length (v ++ c ∷ y)) (w ++ c ∷ y))) bad) (ends_ext v)
        ∙ ap (λ s. cond (ends_word (v ++ c ∷ [])) (number s) bad) (read_length w v)

    number_is : (w : List ℕ) → number_before (w ++ c ∷ y) (after_number (w ++ c ∷ y)) ≡ number_token w (after_number w)
    number_is w = number_by w (after_number w) (after_number (w ++ c ∷ y)) (number_ext w)

-- ---- the token of a word does not depend on what follows its end

abbrev any_word : ℕ → Bool → Bool → Bool → Token → Token
any_word x t f n k = cond (x == 116) (cond t (boolean true) bad) (cond (x == 102) (cond f (boolean false) bad) (cond (x == 110) (cond n null bad) k))

word_is : (x : ℕ) (t : List ℕ) → word (x ∷ t)
    ≡ any_word x (literal_at ascii.true_text (x ∷ t)) (literal_at ascii.false_text (x ∷ t)) (literal_at ascii.null_text (x ∷ t)) (number_before (x ∷ t) (after_number (x ∷ t)))
unfolding word
word_is x t = refl

pub word_same : (c : ℕ) → stops c ≡ true → (x : ℕ) (w y z : List ℕ) → word (x ∷ (w ++ c ∷ y)) ≡ word (x ∷ (w ++ c ∷ z))
word_same c stop x w y z =
    let t = x ∷ (w ++ c ∷ y) in
    let u = x ∷ (w ++ c ∷ z) in
    let n = number_is c stop y (x ∷ w) ∙ sym (number_is c stop z (x ∷ w)) in
    word_is x (w ++ c ∷ y)
    ∙ ap (λ b. any_word x b (literal_at ascii.false_text t) (literal_at ascii.null_text t) (number_before t (after_number t))) (literal_same c stop ascii.true_text (x ∷ w) y z refl)
    ∙ ap (λ b. any_word x (literal_at ascii.true_text u) b (literal_at ascii.null_text t) (number_before t (after_number t))) (literal_same c stop ascii.false_text (x ∷ w) y z refl)
    ∙ ap (λ b. any_word x (literal_at ascii.true_text u) (literal_at ascii.false_text u) b (number_before t (after_number t))) (literal_same c stop ascii.null_text (x ∷ w) y z refl)
    ∙ ap (λ k. any_word x (literal_at ascii.true_text u) (literal_at ascii.false_text u) (literal_at ascii.null_text u) k) n
    ∙ sym (word_is x (w ++ c ∷ z))

-- ---- a word with a quotation mark in it is a fault

literal_bad : (name w y : List ℕ) → Clean name → Clean w → literal_at name (w ++ 34 ∷ y) ≡ false
literal_bad [] [] y h k = refl
literal_bad [] (b ∷ w) y h k = no_stop b (and_parts (inner b) (list_all inner w) k).0
literal_bad (n ∷ name) [] y h k = literal_more n name 34 y ∙ ap (λ b. b && literal_at name y) (apart n 34 (and_parts (inner n) (list_all inner name) h).0 refl)
literal_bad (n ∷ name) (b ∷ w) y h k =
    literal_more n name b (w ++ 34 ∷ y) ∙ ap (λ x. nat_eq n b && x) (literal_bad name w y (and_parts (inner n) (list_all inner name) h).1 (and_parts (inner b) (list_all inner w) k).1)
    ∙ never (nat_eq n b) where
      never : (b : Bool) → (b && false) ≡ false
      never true = refl
      never false = refl

clean_drop : (k : ℕ) (w : List ℕ) → Clean w → Clean (drop k w)
clean_drop zero w h = h
clean_drop (suc k) [] h = h
clean_drop (suc k) (b ∷ w) h = clean_drop k w (and_parts (inner b) (list_all inner w) h).1

abbrev CleanOption : Option (List ℕ) → Type 0
CleanOption None = Unit {0}
CleanOption (Some v) = Clean v

clean_cond : (b : Bool) (o p : Option (List ℕ)) → CleanOption o → CleanOption p → CleanOption (cond b o p)
clean_cond true o p h k = h
clean_cond false o p h k = k

clean_choose : (b : Bool) (u v : List ℕ) → Clean u → Clean v → Clean (cond b u v)
clean_choose true u v h k = h
clean_choose false u v h k = k

clean_digits : (w : List ℕ) → Clean w → CleanOption (after_digits w)
clean_digits w h = clean_cond (prefix_len is_ascii_digit w == 0) None (Some (drop (prefix_len is_ascii_digit w) w)) tt (clean_drop (prefix_len is_ascii_digit w) w h)

clean_minus : (w : List ℕ) → Clean w → Clean (after_minus w)
clean_minus w h = clean_choose (head w == 45) (drop 1 w) w (clean_drop 1 w h) h

clean_sign : (w : List ℕ) → Clean w → Clean (after_sign w)
clean_sign w h = clean_choose ((head w == 45) || (head w == 43)) (drop 1 w) w (clean_drop 1 w h) h

clean_whole : (w : List ℕ) → Clean w → CleanOption (after_whole w)
clean_whole w h = clean_cond (head w == 48) (Some (drop 1 w)) (after_digits w) (clean_drop 1 w h) (clean_digits w h)

clean_fraction : (w : List ℕ) → Clean w → CleanOption (after_fraction w)
clean_fraction w h = clean_cond (head w == 46) (after_digits (drop 1 w)) (Some w) (clean_digits (drop 1 w) (clean_drop 1 w h)) h

clean_exponent : (w : List ℕ) → Clean w → CleanOption (after_exponent w)
clean_exponent w h =
    clean_cond ((head w == 101) || (head w == 69)) (after_digits (after_sign (drop 1 w))) (Some w) (clean_digits (after_sign (drop 1 w)) (clean_sign (drop 1 w) (clean_drop 1 w h))) h

clean_then : (f : List ℕ → Option (List ℕ)) → ((v : List ℕ) → Clean v → CleanOption (f v)) → (o : Option (List ℕ)) → CleanOption o → CleanOption (option_and_then f o)
clean_then f h None k = tt
clean_then f h (Some v) k = h v k

clean_number : (w : List ℕ) → Clean w → CleanOption (after_number w)
unfolding after_number
clean_number w h =
    clean_then after_exponent clean_exponent (option_and_then after_fraction (after_whole (after_minus w)))
    (clean_then after_fraction clean_fraction (after_whole (after_minus w)) (clean_whole (after_minus w) (clean_minus w h)))

quote_ends : (v : List ℕ) → Clean v → ends_word (v ++ 34 ∷ []) ≡ false
quote_ends [] h = refl
quote_ends (b ∷ v) h = no_stop b (and_parts (inner b) (list_all inner v) h).0

number_bad : (w y : List ℕ) → Clean w → number_before (w ++ 34 ∷ y) (after_number (w ++ 34 ∷ y)) ≡ bad
number_bad w y h = number_is 34 refl y w ∙ by (after_number w) (clean_number w h) where
  by : (o : Option (List ℕ)) → CleanOption o → number_token 34 refl y w o ≡ bad
  by None k = refl
  by (Some v) k = ap (λ b. cond b (number (take (length w - length v) w)) bad) (quote_ends v k)

any_bad : (x : ℕ) → any_word x false false false bad ≡ bad
any_bad x = by (x == 116) (x == 102) (x == 110) where
  by : (a b c : Bool) → cond a (cond false (boolean true) bad) (cond b (cond false (boolean false) bad) (cond c (cond false null bad) bad)) ≡ bad
  by true b c = refl
  by false true c = refl
  by false false true = refl
  by false false false = refl

pub word_bad : (x : ℕ) (w y : List ℕ) → Clean (x ∷ w) → word (x ∷ (w ++ 34 ∷ y)) ≡ bad
word_bad x w y h =
    let t = x ∷ (w ++ 34 ∷ y) in
    word_is x (w ++ 34 ∷ y)
    ∙ ap (λ b. any_word x b (literal_at ascii.false_text t) (literal_at ascii.null_text t) (number_before t (after_number t))) (literal_bad ascii.true_text (x ∷ w) y refl h)
    ∙ ap (λ b. any_word x false b (literal_at ascii.null_text t) (number_before t (after_number t))) (literal_bad ascii.false_text (x ∷ w) y refl h)
    ∙ ap (λ b. any_word x false false b (number_before t (after_number t))) (literal_bad ascii.null_text (x ∷ w) y refl h)
    ∙ ap (λ k. any_word x false false false k) (number_bad (x ∷ w) y h)
    ∙ any_bad x

-- ---- the first byte that ends a word, or is a quotation mark

-- Whether a quotation mark comes before the end of a word.
abbrev pub broken : List ℕ → Bool
broken [] = false
broken (c ∷ q) = cond (c == 34) true (cond (is_operator c || is_space c) false (broken q))

pub record Ended (q : List ℕ) : Type 0 where
  pub front : List ℕ
  pub stop : ℕ
  pub back : List ℕ
  pub is : q ≡ front ++ stop ∷ back
  pub clean : Clean front
  pub ends : stops stop ≡ true
  pub breaks : broken q ≡ (stop == 34)

pub ended_of : (q : List ℕ) → list_any stops q ≡ true → Ended q
ended_of [] h = absurd (cc)
ended_of (c ∷ q) h = by (c == 34) (is_operator c || is_space c) refl refl (ended_of q) where
  by : (a b : Bool) → (c == 34) ≡ a → (is_operator c || is_space c) ≡ b → (list_any stops q ≡ true → Ended q) → Ended (c ∷ q)
  by true b e f more = record {
    front = [];
    stop = c;
    back = q;
    is = refl;
    clean = refl;
    ends = ap (λ z. is_operator c || is_space c || z) e ∙ always (is_operator c || is_space c);
    breaks = ap (λ z. cond z true (cond (is_operator c || is_space c) false (broken q))) e ∙ sym e;
  } where
    always : (b : Bool) → (b || true) ≡ true
    always true = refl
    always false = refl
  by false true e f more = record {
    front = [];
    stop = c;
    back = q;
    is = refl;
    clean = refl;
    ends = ap (λ z. z || (c == 34)) f;
    breaks = ap (λ z. cond z true (cond (is_operator c || is_space c) false (broken q))) e ∙ ap (λ z. cond z false (broken q)) f ∙ sym e;
  }
  by false false e f more =
      let none : stops c ≡ false = ap (λ z. z || (c == 34)) f ∙ e in
      let r = more (sym (ap (λ z. z || list_any stops q) none) ∙ h) in
      record {
        front = c ∷ r.front;
        stop = r.stop;
        back = r.back;
        is = ap (λ z. c ∷ z) r.is;
        clean = ap (λ z. not z && list_all inner r.front) none ∙ r.clean;
        ends = r.ends;
        breaks = ap (λ z. cond z true (cond (is_operator c || is_space c) false (broken q))) e ∙ ap (λ z. cond z false (broken q)) f ∙ r.breaks;
      }
