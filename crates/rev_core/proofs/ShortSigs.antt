-- Digits of bytes, and bytes of digits.
use Rattle.proof_prelude.proofs.{◌≡◌, ℕ, zero, suc, Bool, true, false, ◌&&◌, ◌+◌, ◌-◌, ◌*◌, ◌/◌, ◌%◌, ◌<◌, ◌≤◌, List, [], ◌∷◌, ◌++◌, length, take, drop, map, get_or, slice_set, refl, sym, ap, subst, ◌∙◌, arith, get_or-map, get_or_append_left, length-map, drop_all, drop_more, map-append, take_more, take_more_set, and_parts, cond-false, false≢true, eqb-suc-zero, list_all-append, le_bytes_8, list_all, from_le_bytes, to_le_bytes, get_or-append-add, get_or-drop, length-append, length-drop, length-set, take_all, take-append-drop, take-take}
use Rattle.std.specs.Int.{w64}
use Rattle.rev_core.specs.{is_sig, padded, bytes_in, digit_of, digits_of, is_hex_digit, text_in}
use Rattle.rev_core.proofs.Pad.{padded-front}

abbrev high : ℕ → ℕ
high b = digit_of (b / 16)

abbrev low : ℕ → ℕ
low b = digit_of (b % 16)

-- the first n bytes have the first n digits of each half of the string
pub record IsJoined (text bytes : List ℕ) (n : ℕ) : Type 0 where
  pub high : map high (take n bytes) ≡ take n text
  pub low : map low (take n bytes) ≡ take n (drop 16 text)

more : (f : ℕ → ℕ) (bytes text : List ℕ) (i b : ℕ) → i < length bytes → i < length text → f b ≡ get_or text i 0
    → map f (take i bytes) ≡ take i text → map f (take (i + 1) (slice_set bytes i b)) ≡ take (i + 1) text
more f bytes text i b n m is h =
    ap (map f) (take_more_set bytes i b n) ∙ map-append f (take i bytes) (b ∷ [])
    ∙ (λ j. h j ++ is j ∷ []) ∙ sym (take_more text i 0 m)

-- one more byte
joined_more : (text bytes : List ℕ) (i x y : ℕ) → length bytes ≡ 16 → length text ≡ 32 → i < 16 → x < 16 → y < 16
    → digit_of x ≡ get_or text i 0 → digit_of y ≡ get_or text (i + 16) 0
    → IsJoined text bytes i → IsJoined text (slice_set bytes i (x * 16 + y)) (i + 1)
joined_more text bytes i x y n m lt xs ys dx dy h =
    let hx : (x * 16 + y) / 16 ≡ x = omega arith in
    let hy : (x * 16 + y) % 16 ≡ y = omega arith in
    let place : i + 16 ≡ 16 + i = omega arith in
    let rest : i < length (drop 16 text) = omega (arith, length-drop 16 text) in
    record {
      high = more high bytes text i (x * 16 + y) (omega arith) (omega arith) (ap digit_of hx ∙ dx) h.high;
      low = more low bytes (drop 16 text) i (x * 16 + y) (omega arith) rest (ap digit_of hy ∙ dy ∙ ap (λ n. get_or text n 0) place ∙ sym (get_or-drop 16 text i 0)) h.low;
    }

-- all 16 bytes
joined_all : (text bytes : List ℕ) → length bytes ≡ 16 → length text ≡ 32 → IsJoined text bytes 16 → digits_of bytes ≡ text
joined_all text bytes size m h =
    let whole = take_all 16 bytes (omega arith) in
    let rest = take_all 16 (drop 16 text) (omega (arith, length-drop 16 text)) in
    let first : map high bytes ≡ take 16 text = ap (map high) (sym whole) ∙ h.high in
    let second : map low bytes ≡ drop 16 text = ap (map low) (sym whole) ∙ h.low ∙ rest in
    (λ i. first i ++ second i) ∙ take-append-drop 16 text

-- `all` is whether the first n digits of each half are hexadecimal; if they are, the first n bytes have them
pub record IsRead (text bytes : List ℕ) (all : Bool) (n : ℕ) : Type 0 where
  pub size : length bytes ≡ 16
  pub tested : all ≡ (list_all is_hex_digit (take n text) && list_all is_hex_digit (take n (drop 16 text)))
  pub read : all ≡ true → IsJoined text bytes n

regroup : (a b c d : Bool) → ((a && b) && (c && d)) ≡ ((c && (a && true)) && (d && (b && true)))
regroup true true true true = refl
regroup true true true false = refl
regroup true true false d = refl
regroup true false true true = refl
regroup true false true false = refl
regroup true false false d = refl
regroup false b true d = refl
regroup false b false d = refl

all_more : (xs : List ℕ) (i : ℕ) → i < length xs → list_all is_hex_digit (take (i + 1) xs) ≡ (list_all is_hex_digit (take i xs) && (is_hex_digit (get_or xs i 0) && true))
all_more xs i n = ap (list_all is_hex_digit) (take_more xs i 0 n) ∙ list_all-append is_hex_digit (take i xs) (get_or xs i 0 ∷ [])

-- two more digits are read
pub read_more : (text bytes : List ℕ) (all : Bool) (i x y : ℕ) → length text ≡ 32 → i < 16 → x < 16 → y < 16
    → (is_hex_digit (get_or text i 0) ≡ true → digit_of x ≡ get_or text i 0)
    → (is_hex_digit (get_or text (i + 16) 0) ≡ true → digit_of y ≡ get_or text (i + 16) 0)
    → IsRead text bytes all i
    → IsRead text (slice_set bytes i (x * 16 + y)) ((is_hex_digit (get_or text i 0) && is_hex_digit (get_or text (i + 16) 0)) && all) (i + 1)
read_more text bytes all i x y m lt xs ys dx dy h =
    let place : i + 16 ≡ 16 + i = omega arith in
    let low : get_or text (i + 16) 0 ≡ get_or (drop 16 text) i 0 = ap (λ k. get_or text k 0) place ∙ sym (get_or-drop 16 text i 0) in
    let rest : i < length (drop 16 text) = omega (arith, length-drop 16 text) in
    record {
      size = length-set bytes i (x * 16 + y) ∙ h.size;
      tested =
          (λ j. (is_hex_digit (get_or text i 0) && is_hex_digit (low j)) && h.tested j)
          ∙ regroup (is_hex_digit (get_or text i 0)) (is_hex_digit (get_or (drop 16 text) i 0)) (list_all is_hex_digit (take i text)) (list_all is_hex_digit (take i (drop 16 text)))
          ∙ (λ j. sym (all_more text i (omega arith)) j && sym (all_more (drop 16 text) i rest) j);
      read = λ e.
          let parts = and_parts (is_hex_digit (get_or text i 0) && is_hex_digit (get_or text (i + 16) 0)) all e in
          let digits = and_parts (is_hex_digit (get_or text i 0)) (is_hex_digit (get_or text (i + 16) 0)) parts.0 in
          joined_more text bytes i x y h.size m lt xs ys (dx digits.0) (dy digits.1) (h.read parts.1);
    }

-- all digits are read
pub read_all : (text bytes : List ℕ) (all : Bool) → length text ≡ 32 → IsRead text bytes all 16
    → (all ≡ list_all is_hex_digit text) × (all ≡ true → digits_of bytes ≡ text)
read_all text bytes all m h =
    let rest = take_all 16 (drop 16 text) (omega (arith, length-drop 16 text)) in (
      h.tested ∙ (λ j. list_all is_hex_digit (take 16 text) && list_all is_hex_digit (rest j))
          ∙ sym (list_all-append is_hex_digit (take 16 text) (drop 16 text)) ∙ ap (list_all is_hex_digit) (take-append-drop 16 text),
      λ e. joined_all text bytes h.size m (h.read e),
    )

-- a digit of the first half
pub high_at : (bytes : List ℕ) (i : ℕ) → length bytes ≡ 16 → i < 16 → get_or (digits_of bytes) i 0 ≡ digit_of (get_or bytes i 0 / 16)
high_at bytes i n lt =
    let size = length-map bytes high in
    get_or_append_left (map high bytes) (map low bytes) 0 i (omega (arith, size)) ∙ get_or-map high bytes i 0 0 (omega arith)

-- a digit of the second half
pub low_at : (bytes : List ℕ) (i : ℕ) → length bytes ≡ 16 → 16 ≤ i → i < 32 → get_or (digits_of bytes) i 0 ≡ digit_of (get_or bytes (i - 16) 0 % 16)
low_at bytes i n ge lt =
    let size : length (map high bytes) ≡ 16 = length-map bytes high ∙ n in
    let place : i ≡ length (map high bytes) + (i - 16) = omega (arith, size) in
    ap (λ k. get_or (digits_of bytes) k 0) place
    ∙ get_or-append-add (map high bytes) (map low bytes) (i - 16) 0
    ∙ get_or-map low bytes (i - 16) 0 0 (omega arith)

-- there are two digits for each byte
pub length-digits_of : (bytes : List ℕ) → length bytes ≡ 16 → length (digits_of bytes) ≡ 32
length-digits_of bytes n =
    let first = length-map bytes high in
    let second = length-map bytes low in
    let both = length-append (map high bytes) (map low bytes) in
    both ∙ omega (arith, first, second, n)

-- n elements from index k
abbrev pub listed : ℕ → ℕ → List ℕ → List ℕ
listed zero k xs = []
listed (suc n) k xs = get_or xs k 0 ∷ listed n (k + 1) xs

listed-drop : (n k : ℕ) (xs : List ℕ) → length xs ≡ k + n → listed n k xs ≡ drop k xs
listed-drop zero k xs h = sym (drop_all k xs (omega (arith, h)))
listed-drop (suc n) k xs h =
    (λ i. get_or xs k 0 ∷ listed-drop n (k + 1) xs (omega (arith, h)) i) ∙ sym (drop_more xs k 0 (omega (arith, h)))

pub listed-take : (n k : ℕ) (xs : List ℕ) → k + n ≤ length xs → listed n k xs ≡ take n (drop k xs)
listed-take zero k xs h = refl
listed-take (suc n) k xs h =
    (λ i. get_or xs k 0 ∷ listed-take n (k + 1) xs (omega (arith, h)) i) ∙ ap (take (suc n)) (sym (drop_more xs k 0 (omega (arith, h))))

listed-low : (n k : ℕ) (xs : List ℕ) → ((i : ℕ) → get_or xs i 0 < 256) → (i : ℕ) → get_or (listed n k xs) i 0 < 256
listed-low zero k xs h i = omega arith
listed-low (suc n) k xs h zero = h k
listed-low (suc n) k xs h (suc i) = listed-low n (k + 1) xs h i

-- two integers of eight bytes each have these bytes
pub numbers_of : (xs : List ℕ) (a b : ℕ) → length xs ≡ 16 → ((i : ℕ) → get_or xs i 0 < 256)
    → a ≡ from_le_bytes w64 (listed 8 0 xs) → b ≡ from_le_bytes w64 (listed 8 8 xs) → to_le_bytes w64 a ++ to_le_bytes w64 b ≡ xs
numbers_of xs a b n low first second =
    let x = le_bytes_8 (listed 8 0 xs) a refl (listed-low 8 0 xs low) first in
    let y = le_bytes_8 (listed 8 8 xs) b refl (listed-low 8 8 xs low) second in
    (λ i. x i ++ y i) ∙ listed-drop 16 0 xs n

-- a signature of at most 16 bytes is the front of its padded form
pub few : (text : List ℕ) (len front back : ℕ) → is_sig text ≡ true → length text ≤ 16 → len ≡ length text
    → bytes_in front back ≡ take 16 (padded text) → text_in len front back ≡ text
few [] len front back h fits same is = absurd (false≢true h)
few (b ∷ rest) len front back h fits same is =
    let text = b ∷ rest in
    subst (λ n. text_in n front back ≡ text) (sym same)
    (cond-false _ _ _ (eqb-suc-zero (length rest)) ∙ ap (take (length text)) is ∙ take-take (length text) 16 (padded text) fits ∙ padded-front text)
