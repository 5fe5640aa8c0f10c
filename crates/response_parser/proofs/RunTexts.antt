-- Several bytes of a value, read at once.
use Rattle.proof_prelude.proofs.{◌≡◌, ℕ, suc, ◌+◌, ◌-◌, ◌<◌, ◌≤◌, ◌==◌, ◌&&◌, ◌||◌, nat_lt, nat_le, min, length, take, drop, get_or, prefix_len, List, [], ◌∷◌, ◌++◌, Bool, true, false, cond, refl, sym, ap, subst, ◌∙◌, append_assoc, append-nil, arith, list_all, and_parts, and_right, eqb-true, take_more, take-add}
use Rattle.doc_envelope.specs.{is_space}
use Rattle.json.specs.Run.{is_plain}
use Rattle.response_parser.specs.{step, after, given, pieces, Name, is_plain as is_plain_name}
use Rattle.response_parser.specs.State.{State, more}
use Rattle.response_parser.specs.Runs.{Continues, Copies, IsInValue, copied, in_value_of, more_by}
use Rattle.response_parser.specs.declared.place.Place.TheVariants.{Quoted}
use Rattle.response_parser.specs.declared.place.Found.TheVariants.{Nothing}
use Rattle.response_parser.proofs.Readings.{after-append, pieces-append}

-- ---- counts

more_by-append : (n : ℕ) (xs ys : List ℕ) → more_by n (xs ++ ys) ≡ more_by (more_by n xs) ys
more_by-append n [] ys = refl
more_by-append n (x ∷ xs) ys = more_by-append (more n) xs ys

more_min : (n k : ℕ) → n ≤ 18446744073709551615 → min (more n + k) 18446744073709551615 ≡ min (n + suc k) 18446744073709551615
more_min n k h = grind arith

more_le : (n : ℕ) → n ≤ 18446744073709551615 → more n ≤ 18446744073709551615
more_le n h = grind arith

pub more_by-min : (n : ℕ) (xs : List ℕ) → n ≤ 18446744073709551615 → more_by n xs ≡ min (n + length xs) 18446744073709551615
more_by-min n [] h = grind arith
more_by-min n (x ∷ xs) h = more_by-min (more n) xs (more_le n h) ∙ more_min n (length xs) h

-- ---- in order

filled : (u v : List ℕ) → (length u == 0) ≡ false → (length (u ++ v) == 0) ≡ false
filled [] v h = absurd (cc)
filled (a ∷ u) v h = grind arith

module _ (name : Name) where
  -- after bytes that were copied
  still : (s : State) (xs : List ℕ) (q q' : Bool) (n n' : ℕ) → IsInValue s name q n → IsInValue (copied s xs name q' n') name q' n'
  still s xs q q' n n' h = record { place = refl; nesting_is = refl; found = h.found; begun = filled s.text xs h.begun }

  settled : (s : State) (q : Bool) (n : ℕ) → IsInValue s name q n → s ≡ record s { place = in_value_of name q; nesting = n; found = Nothing }
  settled s q n h = λ i. record s { place = h.place i; nesting = h.nesting_is i; found = h.found i }

  pub copies_none : (s : State) (q : Bool) (n : ℕ) → IsInValue s name q n → Copies s [] name q n
  copies_none s q n h = record {
    state = λ i. record s { place = h.place i; nesting = h.nesting_is i; text = sym (append-nil s.text) i };
    none = refl;
  }

  pub copies_then : (s : State) (xs ys : List ℕ) (q q' q'' : Bool) (n n' n'' : ℕ) → IsInValue s name q n → Copies s xs name q' n'
      → ((t : State) → IsInValue t name q' n' → Copies t ys name q'' n'') → Copies s (xs ++ ys) name q'' n''
  copies_then s xs ys q q' q'' n n' n'' h a f =
      let t = copied s xs name q' n' in
      let b = f t (still s xs q q' n n' h) in
      record {
        state = after-append s xs ys ∙ ap (λ z. after z ys) a.state ∙ b.state
            ∙ (λ i. record t { place = in_value_of name q''; nesting = n''; text = append_assoc s.text xs ys i; taken = sym (more_by-append s.taken xs ys) i });
        none = pieces-append s xs ys ∙ ap (λ l. l ++ pieces (after s xs) ys) a.none ∙ ap (λ z. pieces z ys) a.state ∙ b.none;
      }

  -- ---- one byte

  -- by a parser whose place, brackets and last completion are given
  one : (s : State) (q q' : Bool) (n n' b : ℕ) → IsInValue s name q n
      → ((t : State) → (length t.text == 0) ≡ false
      → (step (record t { place = in_value_of name q; nesting = n; found = Nothing }) b
      ≡ record t { place = in_value_of name q'; nesting = n'; found = Nothing; text = t.text ++ b ∷ []; taken = more t.taken }))
      → Copies s (b ∷ []) name q' n'
  one s q q' n n' b h f =
      let to = ap (λ z. step z b) (settled s q n h) ∙ f s h.begun in
      record {
        state = to ∙ (λ i. record s { place = in_value_of name q'; nesting = n'; found = sym h.found i; text = s.text ++ b ∷ []; taken = more s.taken });
        none = ap (λ z. given z ++ []) to;
      }

  pub copies_plain : (s : State) (n b : ℕ) → (b == 34) ≡ false → (b == 92) ≡ false → IsInValue s name true n → Copies s (b ∷ []) name true n
  unfolding step
  copies_plain s n b e f h = one s true true n n b h (λ t g. rw (e, f) refl)

  pub copies_end : (s : State) (n : ℕ) → IsInValue s name true n → Copies s (34 ∷ []) name false n
  unfolding step
  copies_end s n h = one s true false n n 34 h (λ t g. refl)

  pub copies_quote : (s : State) (n : ℕ) → IsInValue s name false n → Copies s (34 ∷ []) name true n
  unfolding step
  copies_quote s n h = one s false true n n 34 h (λ t g. rw (and_right (n == 0) false refl) refl)

  pub copies_escape : (s : State) (n b : ℕ) → IsInValue s name true n → Copies s (92 ∷ b ∷ []) name true n
  unfolding step
  copies_escape s n b h =
      let to = ap (λ z. after z (92 ∷ b ∷ [])) (settled s true n h) in
      record {
        state = to ∙ (λ i. record s { place = Quoted name; nesting = n; found = sym h.found i; text = append_assoc s.text (92 ∷ []) (b ∷ []) i; taken = more (more s.taken) });
        none = ap (λ z. pieces z (92 ∷ b ∷ [])) (settled s true n h);
      }

  -- ---- outside of strings

  not_space : (b : ℕ) → (b == 123 || b == 91) ≡ true → is_space b ≡ false
  not_space b h = grind arith

  not_quote : (b : ℕ) → (b == 123 || b == 91) ≡ true → (b == 34) ≡ false
  not_quote b h = grind arith

  not_comma : (n b : ℕ) → (b == 123 || b == 91) ≡ true → (n == 0 && (b == 44 || b == 125)) ≡ false
  not_comma n b h = grind arith

  pub copies_open : (s : State) (n b : ℕ) → (b == 123 || b == 91) ≡ true → nat_lt n 128 ≡ true → IsInValue s name false n → Copies s (b ∷ []) name false (n + 1)
  unfolding step
  copies_open s n b e few h = one s false false n (n + 1) b h (λ t g. rw (not_space b e, not_comma n b e, not_quote b e, e, few) refl)

  close_not_space : (b : ℕ) → (b == 125 || b == 93) ≡ true → is_space b ≡ false
  close_not_space b h = grind arith

  close_not_quote : (b : ℕ) → (b == 125 || b == 93) ≡ true → (b == 34) ≡ false
  close_not_quote b h = grind arith

  close_not_open : (b : ℕ) → (b == 125 || b == 93) ≡ true → (b == 123 || b == 91) ≡ false
  close_not_open b h = grind arith

  many : (n : ℕ) → 1 < n → (n == 0) ≡ false
  many n h = grind arith

  not_last : (n : ℕ) (b : Bool) → 1 < n → (n == 1 && b) ≡ false
  not_last n b h = grind arith

  pub copies_close : (s : State) (n b : ℕ) → (b == 125 || b == 93) ≡ true → 1 < n → IsInValue s name false n → Copies s (b ∷ []) name false (n - 1)
  unfolding step
  copies_close s n b e some h = one s false false n (n - 1) b h (λ t g. rw (close_not_space b e, many n some, close_not_quote b e, close_not_open b e, e, not_last n (is_plain_name name) some) refl)

  copies_blank : (s : State) (n : ℕ) → (n == 0) ≡ false → IsInValue s name false n → Copies s (32 ∷ []) name false n
  unfolding step
  copies_blank s n some h = one s false false n n 32 h (λ t g. rw g refl)

  copies_solid : (s : State) (n b : ℕ) → (n == 0) ≡ false → is_space b ≡ false → (b == 34) ≡ false → (b == 123 || b == 91) ≡ false → (b == 125 || b == 93) ≡ false → IsInValue s name false n → Copies s (b ∷ []) name false n
  unfolding step
  copies_solid s n b some space quote opens closes h = one s false false n n b h (λ t g. rw (space, some, quote, opens, closes) refl)

  no_space : (b : ℕ) → (b == 32) ≡ false → (b == 9 || b == 10 || b == 13) ≡ false → is_space b ≡ false
  no_space b h k = grind arith

  copies_by : (x : Bool) (s : State) (n b : ℕ) → (b == 32) ≡ x → (n == 0) ≡ false → (b == 9 || b == 10 || b == 13) ≡ false → (b == 34) ≡ false → (b == 123 || b == 91) ≡ false → (b == 125 || b == 93) ≡ false → IsInValue s name false n → Copies s (b ∷ []) name false n
  copies_by true s n b blank some line quote opens closes h = subst (λ z. Copies s (z ∷ []) name false n) (sym (eqb-true b 32 blank)) (copies_blank s n some h)
  copies_by false s n b blank some line quote opens closes h = copies_solid s n b some (no_space b blank line) quote opens closes h

  pub copies_other : (s : State) (n b : ℕ) → (n == 0) ≡ false → (b == 9 || b == 10 || b == 13) ≡ false → (b == 34) ≡ false → (b == 123 || b == 91) ≡ false → (b == 125 || b == 93) ≡ false → IsInValue s name false n → Copies s (b ∷ []) name false n
  copies_other s n b some line quote opens closes h = copies_by (b == 32) s n b refl some line quote opens closes h

  -- ---- a run within a string

  plain_byte : (b : ℕ) → is_plain b ≡ true → ((b == 34) ≡ false) × ((b == 92) ≡ false)
  plain_byte b h = (grind arith, grind arith)

  pub copies_run : (s : State) (n : ℕ) (xs : List ℕ) → list_all is_plain xs ≡ true → IsInValue s name true n → Copies s xs name true n
  copies_run s n [] all h = copies_none s true n h
  copies_run s n (x ∷ xs) all h =
      let parts = and_parts (is_plain x) (list_all is_plain xs) all in
      let b = plain_byte x parts.0 in
      copies_then s (x ∷ []) xs true true true n n n h (copies_plain s n x b.0 b.1 h) (λ t k. copies_run t n xs parts.1 k)

-- ---- positions

one_more : (k : ℕ) → 1 + k ≡ suc k
one_more k = omega arith

all_of : (p : ℕ → Bool) (x : ℕ) (ys : List ℕ) → p x ≡ true → list_all p ys ≡ true → list_all p (x ∷ ys) ≡ true
all_of p x ys e h = rw (e, h) refl

all_more : (p : ℕ → Bool) (x : ℕ) (xs : List ℕ) (b : Bool) → p x ≡ b → list_all p (take (prefix_len p xs) xs) ≡ true → list_all p (take (cond b (1 + prefix_len p xs) 0) (x ∷ xs)) ≡ true
all_more p x xs true e h = ap (λ k. list_all p (take k (x ∷ xs))) (one_more (prefix_len p xs)) ∙ all_of p x (take (prefix_len p xs) xs) e h
all_more p x xs false e h = refl

pub all_prefix : (p : ℕ → Bool) (xs : List ℕ) → list_all p (take (prefix_len p xs) xs) ≡ true
all_prefix p [] = refl
all_prefix p (x ∷ xs) = all_more p x xs (p x) refl (all_prefix p xs)

pub continues_same : (bytes : List ℕ) (i : ℕ) (q : Bool) (n : ℕ) → Continues bytes i q n i q n
continues_same bytes i q n s name q0 n0 h c = c

pub continues_then : (bytes : List ℕ) (i j k : ℕ) (q q' q'' : Bool) (n n' n'' : ℕ) → Continues bytes i q n j q' n' → Continues bytes j q' n' k q'' n'' → Continues bytes i q n k q'' n''
continues_then bytes i j k q q' q'' n n' n'' a b s name q0 n0 h c = b s name q0 n0 h (a s name q0 n0 h c)

-- by more bytes, which a parser in a value copies
continues_by : (bytes : List ℕ) (i j : ℕ) (xs : List ℕ) (q q' : Bool) (n n' : ℕ) → take j bytes ≡ take i bytes ++ xs → ((t : State) (name : Name) → IsInValue t name q n → Copies t xs name q' n') → Continues bytes i q n j q' n'
continues_by bytes i j xs q q' n n' e f s name q0 n0 h c =
    subst (λ z. Copies s z name q' n') (sym e) (copies_then name s (take i bytes) xs q0 q q' n0 n n' h c (λ t k. f t name k))

-- by one byte
continues_one : (bytes : List ℕ) (i : ℕ) (q q' : Bool) (n n' : ℕ) → i < length bytes → ((t : State) (name : Name) → IsInValue t name q n → Copies t (get_or bytes i 0 ∷ []) name q' n') → Continues bytes i q n (i + 1) q' n'
continues_one bytes i q q' n n' h f = continues_by bytes i (i + 1) (get_or bytes i 0 ∷ []) q q' n n' (take_more bytes i 0 h) f

two_more : (i : ℕ) → i + 2 ≡ i + 1 + 1
two_more i = omega arith

few : (n : ℕ) → n < 128 → nat_lt n 128 ≡ true
few n h = grind arith

solid_line : (b : ℕ) → (nat_le 35 b && nat_le b 90 || nat_le 97 b && nat_le b 122) ≡ true → (b == 9 || b == 10 || b == 13) ≡ false
solid_line b h = grind arith

solid_quote : (b : ℕ) → (nat_le 35 b && nat_le b 90 || nat_le 97 b && nat_le b 122) ≡ true → (b == 34) ≡ false
solid_quote b h = grind arith

solid_opens : (b : ℕ) → (nat_le 35 b && nat_le b 90 || nat_le 97 b && nat_le b 122) ≡ true → (b == 123 || b == 91) ≡ false
solid_opens b h = grind arith

solid_closes : (b : ℕ) → (nat_le 35 b && nat_le b 90 || nat_le 97 b && nat_le b 122) ≡ true → (b == 125 || b == 93) ≡ false
solid_closes b h = grind arith

module _ (bytes : List ℕ) (i n : ℕ) (within : i < length bytes) where
  pub continues_quote : get_or bytes i 0 ≡ 34 → Continues bytes i false n (i + 1) true n
  continues_quote e = continues_one bytes i false true n n within (λ t name h. subst (λ b. Copies t (b ∷ []) name true n) (sym e) (copies_quote name t n h))

  pub continues_end : get_or bytes i 0 ≡ 34 → Continues bytes i true n (i + 1) false n
  continues_end e = continues_one bytes i true false n n within (λ t name h. subst (λ b. Copies t (b ∷ []) name false n) (sym e) (copies_end name t n h))

  pub continues_open : (get_or bytes i 0 == 123 || get_or bytes i 0 == 91) ≡ true → n < 128 → Continues bytes i false n (i + 1) false (n + 1)
  continues_open e h = continues_one bytes i false false n (n + 1) within (λ t name k. copies_open name t n (get_or bytes i 0) e (few n h) k)

  pub continues_close : (get_or bytes i 0 == 125 || get_or bytes i 0 == 93) ≡ true → 1 < n → Continues bytes i false n (i + 1) false (n - 1)
  continues_close e some = continues_one bytes i false false n (n - 1) within (λ t name h. copies_close name t n (get_or bytes i 0) e some h)

  pub continues_other : (n == 0) ≡ false → (get_or bytes i 0 == 9 || get_or bytes i 0 == 10 || get_or bytes i 0 == 13) ≡ false → (get_or bytes i 0 == 34) ≡ false
      → (get_or bytes i 0 == 123 || get_or bytes i 0 == 91) ≡ false → (get_or bytes i 0 == 125 || get_or bytes i 0 == 93) ≡ false → Continues bytes i false n (i + 1) false n
  continues_other some line quote opens closes = continues_one bytes i false false n n within (λ t name h. copies_other name t n (get_or bytes i 0) some line quote opens closes h)

  -- a number, a word, a colon or a comma, among others
  pub continues_solid : (n == 0) ≡ false → (nat_le 35 (get_or bytes i 0) && nat_le (get_or bytes i 0) 90 || nat_le 97 (get_or bytes i 0) && nat_le (get_or bytes i 0) 122) ≡ true → Continues bytes i false n (i + 1) false n
  continues_solid some e =
      let b = get_or bytes i 0 in
      continues_other some (solid_line b e) (solid_quote b e) (solid_opens b e) (solid_closes b e)

  -- a backslash and the byte after it
  pub continues_escape : i + 1 < length bytes → get_or bytes i 0 ≡ 92 → Continues bytes i true n (i + 2) true n
  continues_escape last e = continues_by bytes i (i + 2) (get_or bytes i 0 ∷ get_or bytes (i + 1) 0 ∷ []) true true n n
      (ap (λ z. take z bytes) (two_more i) ∙ take_more bytes (i + 1) 0 last ∙ ap (λ l. l ++ get_or bytes (i + 1) 0 ∷ []) (take_more bytes i 0 within) ∙ append_assoc (take i bytes) (get_or bytes i 0 ∷ []) (get_or bytes (i + 1) 0 ∷ []))
      (λ t name h. subst (λ b. Copies t (b ∷ get_or bytes (i + 1) 0 ∷ []) name true n) (sym e) (copies_escape name t n (get_or bytes (i + 1) 0) h))

-- a run within a string
pub continues_run : (bytes : List ℕ) (i n j : ℕ) → j ≡ i + prefix_len is_plain (drop i bytes) → Continues bytes i true n j true n
continues_run bytes i n j e =
    let k = prefix_len is_plain (drop i bytes) in
    continues_by bytes i j (take k (drop i bytes)) true true n n (ap (λ z. take z bytes) e ∙ take-add i k bytes) (λ t name h. copies_run name t n (take k (drop i bytes)) (all_prefix is_plain (drop i bytes)) h)
