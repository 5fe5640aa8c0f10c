-- Bytes as integers that are ordered as the bytes are.
use Rattle.proof_prelude.proofs.{◌≡◌, ℕ, zero, suc, ◌+◌, ◌*◌, ◌^◌, ◌<◌, ◌≤◌, ◌++◌, ◌∷◌, [], List, Bool, true, false, not, ◌&&◌, length, length-drop, get_or, take, drop, replicate, sym, ap, ◌∙◌, refl, arith, and_parts, false≢true, beq, list_all, from_be_bytes, nat_cmp, bool_cmp, ordering_then, ordering_reverse, MatchOrdering, ranks, nat_cmp_total, bool_cmp_total, slice_cmp, pointwise, bytes_decides, nat_eq, drop_more, nat_tests, eqb-true, eq-eqb, Ordering, Less, Equal, Greater, drop-drop, take-append-drop, take_all}
use Rattle.std.proofs.Math.Nat.{mul-le-mul_right, pow-suc}
use Rattle.std.specs.Int.{w64}
use Rattle.std.specs.Cmp.{tied_itself, both_ways}
use Rattle.std.specs.Cmp.Lexicographic.{nat_list_cmp_total}
use Rattle.rev_core.specs.{is_sig, is_sig_byte}
use Rattle.rev_tree.specs.{front_of}

-- all elements are bytes
abbrev pub Bytes : List ℕ → Type 0
Bytes [] = Unit {0}
Bytes (b ∷ text) = (b < 256) × Bytes text

front_low : (n : ℕ) (text : List ℕ) → Bytes text → front_of n text < 256 ^ n
front_low zero text low = omega arith
front_low (suc n) [] low = omega (arith, pow-suc 256 n, front_low n [] tt)
front_low (suc n) (b ∷ text) low =
    let most : b ≤ 255 = omega (arith, low.0) in
    omega (arith, pow-suc 256 n, front_low n text low.1, mul-le-mul_right (256 ^ n) most)

-- the string with the smaller integer is the smaller string
pub front_less : (n : ℕ) (xs ys : List ℕ) → Bytes xs → Bytes ys → front_of n xs < front_of n ys → slice_cmp nat_cmp xs ys ≡ Less
front_less zero xs ys bx by h = absurd (omega arith)
front_less (suc n) xs [] bx by h = absurd (omega arith)
front_less (suc n) [] (y ∷ ys) bx by h = refl
front_less (suc n) (x ∷ xs) (y ∷ ys) bx by h = split (nat_cmp x y) (ranks x y) (front_less n xs ys bx.1 by.1)
  where
    split : (o : Ordering) → MatchOrdering o (x < y) (x ≡ y) (y < x) → (front_of n xs < front_of n ys → slice_cmp nat_cmp xs ys ≡ Less) → ordering_then o (slice_cmp nat_cmp xs ys) ≡ Less
    split Less is rest = refl
    split Equal is rest =
        let same : x * 256 ^ n ≡ y * 256 ^ n = ap (λ b. b * 256 ^ n) is in
        rest (omega (arith, h, same))
    split Greater is rest =
        let more : y + 1 ≤ x = omega (arith, is) in
        absurd (omega (arith, h, mul-le-mul_right (256 ^ n) more, front_low n ys by.1))

-- only equal bytes have equal integers
pub front_exact : (n : ℕ) (xs ys : List ℕ) → Bytes xs → Bytes ys → n ≤ length xs → n ≤ length ys → front_of n xs ≡ front_of n ys → take n xs ≡ take n ys
front_exact zero xs ys bx by lx ly h = refl
front_exact (suc n) [] ys bx by lx ly h = absurd (omega arith)
front_exact (suc n) (x ∷ xs) [] bx by lx ly h = absurd (omega arith)
front_exact (suc n) (x ∷ xs) (y ∷ ys) bx by lx ly h = split (nat_cmp x y) (ranks x y) (front_exact n xs ys bx.1 by.1 (omega (arith, lx)) (omega (arith, ly)))
  where
    split : (o : Ordering) → MatchOrdering o (x < y) (x ≡ y) (y < x) → (front_of n xs ≡ front_of n ys → take n xs ≡ take n ys) → x ∷ take n xs ≡ y ∷ take n ys
    split Less is rest =
        let more : x + 1 ≤ y = omega (arith, is) in
        absurd (omega (arith, h, mul-le-mul_right (256 ^ n) more, front_low n xs bx.1))
    split Equal is rest =
        let same : x * 256 ^ n ≡ y * 256 ^ n = ap (λ b. b * 256 ^ n) is in
        let level : front_of n xs ≡ front_of n ys = omega (arith, h, same) in
        λ i. is i ∷ rest level i
    split Greater is rest =
        let more : y + 1 ≤ x = omega (arith, is) in
        absurd (omega (arith, h, mul-le-mul_right (256 ^ n) more, front_low n ys by.1))

-- so the integers may be compared before the strings
pub front_first : (n : ℕ) (xs ys : List ℕ) → Bytes xs → Bytes ys → (front_of n xs ≡ front_of n ys → ⊥) → nat_cmp (front_of n xs) (front_of n ys) ≡ slice_cmp nat_cmp xs ys
front_first n xs ys bx by apart = split (nat_cmp (front_of n xs) (front_of n ys)) (ranks (front_of n xs) (front_of n ys))
  where
    split : (o : Ordering) → MatchOrdering o (front_of n xs < front_of n ys) (front_of n xs ≡ front_of n ys) (front_of n ys < front_of n xs) → o ≡ slice_cmp nat_cmp xs ys
    split Less is = sym (front_less n xs ys bx by is)
    split Equal is = absurd (apart is)
    split Greater is = sym (nat_list_cmp_total.antisymm xs ys ∙ ap ordering_reverse (front_less n ys xs by bx is))

-- eight bytes are read as this integer
pub eight_are : (text : List ℕ) → length text ≡ 8 → from_be_bytes w64 text ≡ front_of 8 text
eight_are (a ∷ (b ∷ (c ∷ (d ∷ (e ∷ (f ∷ (g ∷ (h ∷ [])))))))) long = omega arith
eight_are text long = absurd (omega arith)

step : (n : ℕ) (text : List ℕ) (i j : ℕ) → i < length text → j ≡ i + 1 → front_of (suc n) (drop i text) ≡ get_or text i 0 * 256 ^ n + front_of n (drop j text)
step n text i j low next = ap (front_of (suc n)) (drop_more text i 0 low) ∙ (λ k. get_or text i 0 * 256 ^ n + front_of n (drop (sym next k) text))

-- eight bytes from an index are read as this integer
pub eight_at : (text : List ℕ) (i : ℕ) → i + 8 ≤ length text
    → from_be_bytes w64 (get_or text i 0 ∷ (get_or text (i + 1) 0 ∷ (get_or text (i + 2) 0 ∷ (get_or text (i + 3) 0 ∷ (get_or text (i + 4) 0 ∷ (get_or text (i + 5) 0 ∷ (get_or text (i + 6) 0 ∷ (get_or text (i + 7) 0 ∷ []))))))))
    ≡ front_of 8 (drop i text)
eight_at text i high =
    omega (
      arith,
      step 7 text i (i + 1) (omega arith) refl,
      step 6 text (i + 1) (i + 2) (omega arith) (omega arith),
      step 5 text (i + 2) (i + 3) (omega arith) (omega arith),
      step 4 text (i + 3) (i + 4) (omega arith) (omega arith),
      step 3 text (i + 4) (i + 5) (omega arith) (omega arith),
      step 2 text (i + 5) (i + 6) (omega arith) (omega arith),
      step 1 text (i + 6) (i + 7) (omega arith) (omega arith),
      step 0 text (i + 7) (i + 8) (omega arith) (omega arith),
    )

zeros : (n k : ℕ) → front_of n (replicate k 0) ≡ 0
zeros zero k = refl
zeros (suc n) zero = refl
zeros (suc n) (suc k) = omega (arith, zeros n k)

-- zeros after a string do not change the integer
pub front_of-padded : (n k : ℕ) (text : List ℕ) → front_of n (text ++ replicate k 0) ≡ front_of n text
front_of-padded zero k text = refl
front_of-padded (suc n) k [] = zeros (suc n) k
front_of-padded (suc n) k (b ∷ text) = ap (λ f. b * 256 ^ n + f) (front_of-padded n k text)

-- ---- signatures

byte_low : (b : ℕ) → is_sig_byte b ≡ true → b < 256
byte_low b h = grind (arith, nat_tests)

-- a signature consists of bytes
sig_bytes : (text : List ℕ) → list_all is_sig_byte text ≡ true → Bytes text
sig_bytes [] h = tt
sig_bytes (b ∷ text) h =
    let parts = and_parts (is_sig_byte b) (list_all is_sig_byte text) h in
    (byte_low b parts.0, sig_bytes text parts.1)

pub bytes_of_sig : (text : List ℕ) → is_sig text ≡ true → Bytes text
bytes_of_sig text is = sig_bytes text (and_parts _ (list_all is_sig_byte text) is).1

-- ---- 32 bytes as four integers

bytes_later : (k : ℕ) (text : List ℕ) → Bytes text → Bytes (drop k text)
bytes_later zero text h = h
bytes_later (suc k) [] h = tt
bytes_later (suc k) (b ∷ text) h = bytes_later k text h.1

joined : (n : ℕ) (xs ys : List ℕ) → take n xs ≡ take n ys → drop n xs ≡ drop n ys → xs ≡ ys
joined n xs ys p q = sym (take-append-drop n xs) ∙ (λ i. p i ++ q i) ∙ take-append-drop n ys

-- the integers are equal exactly if the strings are
pub words_decide : (xs ys : List ℕ) → Bytes xs → Bytes ys → length xs ≡ 32 → length ys ≡ 32
    → (nat_eq (front_of 8 xs) (front_of 8 ys) && nat_eq (front_of 8 (drop 8 xs)) (front_of 8 (drop 8 ys)) && nat_eq (front_of 8 (drop 16 xs)) (front_of 8 (drop 16 ys)) && nat_eq (front_of 8 (drop 24 xs)) (front_of 8 (drop 24 ys)))
    ≡ pointwise nat_eq xs ys
words_decide xs ys bx by lx ly = both_ways _ _
    (λ e.
    let fourth = and_parts _ _ e in
    let third = and_parts _ _ fourth.0 in
    let second = and_parts _ _ third.0 in
    let last = sym (take_all 8 (drop 24 xs) (most xs lx)) ∙ part 24 (omega arith) fourth.1 ∙ take_all 8 (drop 24 ys) (most ys ly) in
    let behind_16 = joined 8 (drop 16 xs) (drop 16 ys) (part 16 (omega arith) third.1) (drop-drop 8 16 xs ∙ last ∙ sym (drop-drop 8 16 ys)) in
    let behind_8 = joined 8 (drop 8 xs) (drop 8 ys) (part 8 (omega arith) second.1) (drop-drop 8 8 xs ∙ behind_16 ∙ sym (drop-drop 8 8 ys)) in
    (bytes_decides xs ys).1 (joined 8 xs ys (part 0 (omega arith) second.0) behind_8))
    (λ e.
    let is = (bytes_decides xs ys).0 e in
    let one : (k : ℕ) → nat_eq (front_of 8 (drop k xs)) (front_of 8 (drop k ys)) ≡ true = λ k. eq-eqb _ _ (ap (λ l. front_of 8 (drop k l)) is) in
    λ i. one 0 i && one 8 i && one 16 i && one 24 i)
  where
    most : (zs : List ℕ) → length zs ≡ 32 → length (drop 24 zs) ≤ 8
    most zs long = omega (arith, length-drop 24 zs, long)

    part : (k : ℕ) → k + 8 ≤ 32 → nat_eq (front_of 8 (drop k xs)) (front_of 8 (drop k ys)) ≡ true → take 8 (drop k xs) ≡ take 8 (drop k ys)
    part k low e =
        front_exact 8 (drop k xs) (drop k ys) (bytes_later k xs bx) (bytes_later k ys by)
        (omega (arith, length-drop k xs, lx, low)) (omega (arith, length-drop k ys, ly, low)) (eqb-true _ _ e)

same_flag : (d e : Bool) → not (beq d e) ≡ false → d ≡ e
same_flag true true h = refl
same_flag true false h = absurd (false≢true (sym h))
same_flag false true h = absurd (false≢true (sym h))
same_flag false false h = refl

-- equal first parts do not change the order
pub behind_ties : (d e : Bool) (g h : ℕ) (o : Ordering) → not (beq d e) ≡ false → g ≡ h → o ≡ ordering_then (bool_cmp d e) (ordering_then (nat_cmp g h) o)
behind_ties d e g h o flags level =
    let same = same_flag d e flags in
    sym (ap (λ p. ordering_then p o) (sym (ap (nat_cmp g) level) ∙ tied_itself nat_cmp_total g))
    ∙ sym (ap (λ p. ordering_then p (ordering_then (nat_cmp g h) o)) (sym (ap (bool_cmp d) same) ∙ tied_itself bool_cmp_total d))
