-- An escaped text has no hidden character.
use Rattle.proof_prelude.proofs.{◌≡◌, ℕ, ◌+◌, ◌-◌, ◌/◌, ◌%◌, ◌<◌, ◌≤◌, ◌==◌, ◌||◌, nat_le, nat_lt, Bool, true, false, if◌then◌else◌, List, [], ◌∷◌, ◌++◌, refl, sym, ap, ◌∙◌, append_assoc, arith, encode_utf8_all, Result, Ok, Err, OnOk, list_any, list_all, digit_char, lt-leb, or_from, and_left, and_right, and_parts, nat_tests, list_any-append, flat_map-append, encodes-append, append-nil}
use Rattle.std.specs.Int.{is_in_range}
use Rattle.std.specs.List.{flat_map}
use Rattle.visible_text.specs.{IsSeen, escape_of, hidden_ranges, is_hidden, quoted, quoted_char, quoted_chars, unit_of, visible, visible_char}

by_if : {X : Type 0} (P : X → Type 0) (b : Bool) (x y : X) → (b ≡ true → P x) → (b ≡ false → P y) → P (if b then x else y)
by_if P true x y f g = f refl
by_if P false x y f g = g refl

-- ---- printable characters of ASCII are seen

below : (n : ℕ) (rs : List (ℕ × ℕ)) → list_all (λ r. nat_lt 126 r.0) rs ≡ true → n ≤ 126 → list_any (λ r. is_in_range r.0 r.1 n) rs ≡ false
below n [] h low = refl
below n (r ∷ rs) h low =
    let p = and_parts (nat_lt 126 r.0) (list_all (λ (s : ℕ × ℕ). nat_lt 126 s.0) rs) h in
    or_from _ _ (and_left _ _ (lt-leb r.0 n (grind (arith, nat_tests, p.0, low)))) (below n rs p.1 low)

printable : (n : ℕ) → 32 ≤ n → n ≤ 126 → is_hidden n ≡ false
unfolding is_hidden
printable n low high =
    let a : nat_le n 31 ≡ false = lt-leb n 31 (omega arith) in
    let b : nat_le 127 n ≡ false = lt-leb 127 n (omega arith) in
    or_from _ _ (or_from _ _ (and_right _ _ a) (and_left _ _ b)) (below n hidden_ranges refl high)

digit_low : (d : ℕ) → d < 16 → (48 ≤ digit_char d) × (digit_char d ≤ 102)
digit_low d low = grind (arith, nat_tests)

digit_seen : (d : ℕ) → d < 16 → is_hidden (digit_char d) ≡ false
digit_seen d low =
    let h = digit_low d low in
    printable (digit_char d) (omega (arith, h.0)) (omega (arith, h.1))

-- ---- escapes are seen

unit_seen : (n : ℕ) → IsSeen (unit_of n)
unfolding is_hidden
unit_seen n =
    let a = digit_seen (n / 4096 % 16) (omega arith) in
    let b = digit_seen (n / 256 % 16) (omega arith) in
    let d = digit_seen (n / 16 % 16) (omega arith) in
    let e = digit_seen (n % 16) (omega arith) in
    or_from _ _ a (or_from _ _ b (or_from _ _ d (or_from _ _ e refl)))

both_seen : (a b : List ℕ) → IsSeen a → IsSeen b → IsSeen (a ++ b)
both_seen a b h k = list_any-append is_hidden a b ∙ or_from _ _ h k

pub escape_seen : (c : ℕ) → IsSeen (escape_of c)
escape_seen c =
    by_if IsSeen (nat_lt c 0x10000) (unit_of c) (unit_of (0xD800 + (c - 0x10000) / 1024) ++ unit_of (0xDC00 + c % 1024)) (λ h. unit_seen c)
    (λ h. both_seen (unit_of (0xD800 + (c - 0x10000) / 1024)) (unit_of (0xDC00 + c % 1024)) (unit_seen (0xD800 + (c - 0x10000) / 1024)) (unit_seen (0xDC00 + c % 1024)))

char_seen : (c : ℕ) → IsSeen (visible_char c)
char_seen c = by_if IsSeen (is_hidden c) (escape_of c) (c ∷ []) (λ h. escape_seen c) (λ h. or_from _ _ h refl)

quoted_seen : (c : ℕ) → IsSeen (quoted_char c)
unfolding is_hidden
quoted_seen c =
    by_if IsSeen (c == 34) (92 ∷ 34 ∷ []) (if c == 92 then 92 ∷ 92 ∷ [] else visible_char c) (λ h. refl)
    (λ h. by_if IsSeen (c == 92) (92 ∷ 92 ∷ []) (visible_char c) (λ k. refl) (λ k. char_seen c))

each_seen : (f : ℕ → List ℕ) (cs : List ℕ) → ((c : ℕ) → IsSeen (f c)) → IsSeen (flat_map f cs)
each_seen f [] h = refl
each_seen f (c ∷ cs) h = both_seen (f c) (flat_map f cs) (h c) (each_seen f cs h)

pub seen_visible : (cs : List ℕ) → IsSeen (visible cs)
seen_visible cs = each_seen visible_char cs char_seen

pub seen_quoted : (cs : List ℕ) → IsSeen (quoted cs)
unfolding is_hidden
seen_quoted cs = both_seen (quoted_chars cs) (34 ∷ []) (each_seen quoted_char cs quoted_seen) refl

-- ---- one character more

pub more_chars : (f : ℕ → List ℕ) (old a b : List ℕ) (cs : List ℕ) (c : ℕ) → a ≡ old ++ encode_utf8_all (flat_map f cs) → b ≡ a ++ encode_utf8_all (f c) → b ≡ old ++ encode_utf8_all (flat_map f (cs ++ c ∷ []))
more_chars f old a b cs c before step =
    step ∙ (ap (λ t. t ++ encode_utf8_all (f c)) before
    ∙ (append_assoc old (encode_utf8_all (flat_map f cs)) (encode_utf8_all (f c))
    ∙ ap (λ t. old ++ t) (sym (encodes-append (flat_map f cs) (f c))
    ∙ ap encode_utf8_all (ap (λ t. flat_map f cs ++ t) (sym (append-nil (f c))) ∙ sym (flat_map-append f cs (c ∷ []))))))

-- ---- texts after one another

-- two parts after one another
pub both_units : {E : Type 0} (r : Result Unit E) (old a b : List ℕ) (high low : List ℕ) → a ≡ old ++ encode_utf8_all high → OnOk r (b ≡ a ++ encode_utf8_all low) → OnOk r (b ≡ old ++ encode_utf8_all (high ++ low))
both_units (Ok x) old a b high low e f =
    f ∙ (ap (λ t. t ++ encode_utf8_all low) e ∙ (append_assoc old (encode_utf8_all high) (encode_utf8_all low) ∙ ap (λ t. old ++ t) (sym (encodes-append high low))))
both_units (Err e') old a b high low e f = tt

-- characters between quotation marks
pub between : {E : Type 0} (r : Result Unit E) (old a b d : List ℕ) (cs : List ℕ) → a ≡ old ++ 34 ∷ [] → b ≡ a ++ encode_utf8_all cs → OnOk r (d ≡ b ++ 34 ∷ []) → OnOk r (d ≡ old ++ encode_utf8_all (34 ∷ (cs ++ 34 ∷ [])))
unfolding lib.Utf8.encode
between r old a b d cs first mid last =
    both_units r old b d (34 ∷ cs) (34 ∷ []) (mid ∙ (ap (λ t. t ++ encode_utf8_all cs) first ∙ append_assoc old (34 ∷ []) (encode_utf8_all cs))) last
