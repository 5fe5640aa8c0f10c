-- Signatures in two halves of 32 bytes each.
use Rattle.proof_prelude.proofs.{◌≡◌, ℕ, ◌+◌, ◌-◌, ◌≤◌, ◌++◌, List, length, take, drop, replicate, true, sym, ap, ◌∙◌, arith, length-append, length-take-le, take-take, take-append-drop, take_all, take_at, drop-replicate}
use Rattle.std.proofs.Math.Seq.{drop-append-add, drop-append_seam}
use Rattle.rev_core.specs.{RevId, is_sig, padded}
use Rattle.rev_core.proofs.Pad.{padded-front, stored}
use Rattle.rev_core.proofs.ShortSigs.{listed, listed-take}

half_front : (text : List ℕ) → length text ≤ 32 → take (length text) (take 32 (padded text)) ≡ text
half_front text fits = take-take (length text) 32 (padded text) fits ∙ padded-front text

-- the first half of the padded signature, followed by zeros
half_padded : (text : List ℕ) → length text ≤ 32 → take 32 (padded text) ++ replicate 32 0 ≡ padded text
half_padded text fits =
    let n = length text in
    let place : n + (32 - n) ≡ 32 = omega (arith, fits) in
    let left : 64 - n - (32 - n) ≡ 32 = omega (arith, fits) in
    let zeros : drop 32 (padded text) ≡ replicate 32 0 =
    ap (λ k. drop k (padded text)) (sym place) ∙ drop-append-add text (replicate (64 - n) 0) (32 - n)
    ∙ drop-replicate (32 - n) (64 - n) 0 ∙ ap (λ k. replicate k 0) left in
    ap (λ z. take 32 (padded text) ++ z) (sym zeros) ∙ take-append-drop 32 (padded text)

module _ (r : RevId) (generation len : ℕ) (half : List ℕ) (g : generation ≡ r.generation) (n : len ≡ length r.sig) (fits : length r.sig ≤ 32) (h : half ≡ take 32 (padded r.sig)) where
  sig_same : take len half ≡ r.sig
  sig_same = (λ i. take (n i) (h i)) ∙ half_front r.sig fits

  -- the stored parts are the parts of the revision
  pub small_same : record { generation = generation; sig = take len half } ≡ r
  small_same = λ i. record { generation = g i; sig = sig_same i }

  -- zeros follow the stored signature
  pub small_padded : half ++ replicate 32 0 ≡ padded (take len half)
  small_padded = ap (λ l. l ++ replicate 32 0) h ∙ half_padded r.sig fits ∙ ap padded (sym sig_same)

-- a padded signature has 64 bytes
pub length-padded : (text : List ℕ) → is_sig text ≡ true → length (padded text) ≡ 64
length-padded text is = (stored text is).size

-- 32 stored bytes are the first half of the padded signature, and zeros are the second half
module _ (bytes : List ℕ) (len : ℕ) (is : is_sig (take len bytes) ≡ true) (fits : len ≤ 32) (zeros : bytes ++ replicate 32 0 ≡ padded (take len bytes)) where
  size : length bytes ≡ 32
  size = omega (arith, ap length zeros, length-append bytes (replicate 32 0), length-padded (take len bytes) is)

  pub small_head : bytes ≡ take 32 (padded (take len bytes))
  small_head = sym (ap (take 32) (sym zeros) ∙ take_at bytes (replicate 32 0) 32 size)

  pub small_tail : replicate 32 0 ≡ drop 32 (padded (take len bytes))
  small_tail = sym (drop-append_seam bytes (replicate 32 0)) ∙ ap (λ n. drop n (bytes ++ replicate 32 0)) size ∙ ap (drop 32) zeros

  pub small_len : len ≡ length (take len bytes)
  small_len = sym (length-take-le len bytes (omega (arith, size, fits)))

-- the elements of two halves
pub halves_listed : (head tail : List ℕ) → length head ≡ 32 → length tail ≡ 32 → listed 32 0 head ++ listed 32 0 tail ≡ head ++ tail
halves_listed head tail n m =
    let first = listed-take 32 0 head (omega (arith, n)) ∙ take_all 32 head (omega (arith, n)) in
    let second = listed-take 32 0 tail (omega (arith, m)) ∙ take_all 32 tail (omega (arith, m)) in
    λ i. first i ++ second i
