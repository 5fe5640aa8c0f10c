-- Bytes in order.
use Rattle.proof_prelude.proofs.{◌≡◌, ℕ, ◌+◌, ◌-◌, ◌<◌, List, [], ◌∷◌, ◌++◌, take, drop, get_or, length, Bool, false, ◌||◌, refl, sym, ap, ◌∙◌, append_assoc, append-nil, take_more, take-add, take_all, length-drop, arith}
use Rattle.response_parser.specs.State.{State}
use Rattle.response_parser.specs.{step, is_refused, after, given, pieces, piece_of, is_piece, stops, Found, Piece}
use Rattle.response_parser.specs.declared.place.Found.TheVariants.{Nothing}

pub after-append : (s : State) (xs ys : List ℕ) → after s (xs ++ ys) ≡ after (after s xs) ys
after-append s [] ys = refl
after-append s (x ∷ xs) ys = after-append (step s x) xs ys

pub pieces-append : (s : State) (xs ys : List ℕ) → pieces s (xs ++ ys) ≡ pieces s xs ++ pieces (after s xs) ys
pieces-append s [] ys = refl
pieces-append s (x ∷ xs) ys =
    ap (λ l. given (step s x) ++ l) (pieces-append (step s x) xs ys)
    ∙ sym (append_assoc (given (step s x)) (pieces (step s x) xs) (pieces (after (step s x) xs) ys))

-- one more byte
pub after_more : (s : State) (bytes : List ℕ) (i : ℕ) → i < length bytes
    → after s (take (i + 1) bytes) ≡ step (after s (take i bytes)) (get_or bytes i 0)
after_more s bytes i h = ap (after s) (take_more bytes i 0 h) ∙ after-append s (take i bytes) (get_or bytes i 0 ∷ [])

pub pieces_more : (s : State) (bytes : List ℕ) (i : ℕ) → i < length bytes
    → pieces s (take (i + 1) bytes) ≡ pieces s (take i bytes) ++ given (step (after s (take i bytes)) (get_or bytes i 0))
pieces_more s bytes i h =
    ap (pieces s) (take_more bytes i 0 h) ∙ pieces-append s (take i bytes) (get_or bytes i 0 ∷ [])
    ∙ ap (λ l. pieces s (take i bytes) ++ l) (append-nil (given (step (after s (take i bytes)) (get_or bytes i 0))))

-- the same, from a parser in this state
module _ (s m n : State) (bytes : List ℕ) (i : ℕ) where
  pub after_taken : i < length bytes → m ≡ after s (take i bytes) → n ≡ step m (get_or bytes i 0) → n ≡ after s (take (i + 1) bytes)
  after_taken h come one = one ∙ ap (λ z. step z (get_or bytes i 0)) come ∙ sym (after_more s bytes i h)

  pub pieces_taken : i < length bytes → m ≡ after s (take i bytes) → n ≡ step m (get_or bytes i 0) → pieces s (take i bytes) ≡ []
      → pieces s (take (i + 1) bytes) ≡ given n
  pieces_taken h come one none =
      pieces_more s bytes i h ∙ ap (λ l. l ++ given (step (after s (take i bytes)) (get_or bytes i 0))) none
      ∙ ap given (sym (one ∙ ap (λ z. step z (get_or bytes i 0)) come))

-- a slice up to the end
pub rest_of : (bytes : List ℕ) (i : ℕ) → take (length bytes - i) (drop i bytes) ≡ drop i bytes
rest_of bytes i = take_all (length bytes - i) (drop i bytes) (omega (arith, length-drop i bytes))

-- the same after more bytes, from a parser in this state
module _ (s m n : State) (bytes : List ℕ) (i k : ℕ) where
  pub after_copied : m ≡ after s (take i bytes) → n ≡ after m (take k (drop i bytes)) → n ≡ after s (take (i + k) bytes)
  after_copied come more =
      more ∙ ap (λ z. after z (take k (drop i bytes))) come ∙ sym (after-append s (take i bytes) (take k (drop i bytes))) ∙ ap (after s) (sym (take-add i k bytes))

  pub pieces_copied : m ≡ after s (take i bytes) → pieces m (take k (drop i bytes)) ≡ [] → pieces s (take i bytes) ≡ [] → pieces s (take (i + k) bytes) ≡ []
  pieces_copied come more none =
      ap (pieces s) (take-add i k bytes) ∙ pieces-append s (take i bytes) (take k (drop i bytes))
      ∙ ap (λ l. l ++ pieces (after s (take i bytes)) (take k (drop i bytes))) none ∙ ap (λ z. pieces z (take k (drop i bytes))) (sym come) ∙ more

none_before : (ps qs : List Piece) → ps ++ qs ≡ [] → ps ≡ []
none_before [] qs h = refl
none_before (p ∷ ps) qs h = absurd (cc)

one_less : (i : ℕ) → i ≡ (i - 1) + (i - (i - 1))
one_less i = omega arith

-- the same without the last byte
pub pieces_before : (s : State) (bytes : List ℕ) (i : ℕ) → pieces s (take i bytes) ≡ [] → pieces s (take (i - 1) bytes) ≡ []
pieces_before s bytes i h =
    let k = i - (i - 1) in
    let cut : take i bytes ≡ take (i - 1) bytes ++ take k (drop (i - 1) bytes) = ap (λ n. take n bytes) (one_less i) ∙ take-add (i - 1) k bytes in
    none_before (pieces s (take (i - 1) bytes)) (pieces (after s (take (i - 1) bytes)) (take k (drop (i - 1) bytes)))
    (sym (pieces-append s (take (i - 1) bytes) (take k (drop (i - 1) bytes))) ∙ ap (pieces s) (sym cut) ∙ h)

none_of : (f : Found) (text : List ℕ) (b : Bool) → (is_piece f || b) ≡ false → piece_of f text ≡ []
none_of Nothing text b h = refl
none_of _ text b h = absurd (cc)

-- a parser that continues has completed nothing
pub given_none : (s : State) → stops s ≡ false → given s ≡ []
given_none s h = none_of s.found s.text (is_refused s.place) h

nothing_of : (f : Found) (b : Bool) → (is_piece f || b) ≡ false → f ≡ Nothing
nothing_of Nothing b h = refl
nothing_of _ b h = absurd (cc)

pub not_found : (s : State) → stops s ≡ false → s.found ≡ Nothing
not_found s h = nothing_of s.found (is_refused s.place) h
