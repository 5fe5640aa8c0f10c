-- Drawing several things in order.
use Rattle.proof_prelude.proofs.{◌≡◌, ℕ, List, [], ◌∷◌, ◌++◌, sym, ap, subst, ◌∙◌, append_assoc, Result, Ok, Err, OnOk, flat_map-append, flat_map, append-nil}
use Rattle.diagrams.specs.{Draws, Piece, Sign, ink_of, sign, sign_in, sign_ink}

-- a piece
pub drawn : (p : Piece) (old new : List ℕ) → new ≡ old ++ ink_of p → Draws old new (sign_in p)
drawn p old new h = record {
  pieces = p ∷ [];
  ink = h ∙ ap (λ t. old ++ t) (sym (append-nil (ink_of p)));
  drawn = append-nil (sign_in p);
}

-- two drawings in order
pub drawn_then : (a b c : List ℕ) (xs ys : List Sign) → Draws a b xs → Draws b c ys → Draws a c (xs ++ ys)
drawn_then a b c xs ys p q = record {
  pieces = p.pieces ++ q.pieces;
  ink =
      q.ink ∙ (ap (λ t. t ++ flat_map ink_of q.pieces) p.ink ∙ (append_assoc a (flat_map ink_of p.pieces) (flat_map ink_of q.pieces)
      ∙ ap (λ t. a ++ t) (sym (flat_map-append ink_of p.pieces q.pieces))));
  drawn =
      flat_map-append sign_in p.pieces q.pieces
      ∙ (ap (λ t. t ++ flat_map sign_in q.pieces) p.drawn ∙ ap (λ t. xs ++ t) q.drawn);
}

-- a piece by a call that may fail
pub drawn_by : {T E : Type 0} (r : Result T E) (p : Piece) (old new : List ℕ) → OnOk r (new ≡ old ++ ink_of p) → OnOk r (Draws old new (sign_in p))
drawn_by (Ok x) p old new h = drawn p old new h
drawn_by (Err e) p old new h = tt

-- and after another drawing
pub then_by : {T E : Type 0} (r : Result T E) (a b c : List ℕ) (xs ys : List Sign) → Draws a b xs → OnOk r (Draws b c ys) → OnOk r (Draws a c (xs ++ ys))
then_by (Ok x) a b c xs ys p q = drawn_then a b c xs ys p q
then_by (Err e) a b c xs ys p q = tt

-- and without a sign
pub drawn_plain : (a b c : List ℕ) (xs : List Sign) → Draws a b xs → Draws b c [] → Draws a c xs
drawn_plain a b c xs p q = subst (λ (ys : List Sign). Draws a c ys) (append-nil xs) (drawn_then a b c xs [] p q)

pub plain_by : {T E : Type 0} (r : Result T E) (a b c : List ℕ) (xs : List Sign) → Draws a b xs → OnOk r (Draws b c []) → OnOk r (Draws a c xs)
plain_by (Ok x) a b c xs p q = drawn_plain a b c xs p q
plain_by (Err e) a b c xs p q = tt

-- a text from several texts in order
pub then_text : (a b c x y : List ℕ) → b ≡ a ++ x → c ≡ b ++ y → c ≡ a ++ (x ++ y)
then_text a b c x y p q = q ∙ (ap (λ t. t ++ y) p ∙ append_assoc a x y)

pub sign_by : {T E : Type 0} (r : Result T E) (s : Sign) (a b c x y : List ℕ) → x ++ y ≡ sign_ink s → b ≡ a ++ x → OnOk r (c ≡ b ++ y) → OnOk r (Draws a c (s ∷ []))
sign_by (Ok u) s a b c x y is p q = drawn (sign s) a c (then_text a b c x y p q ∙ ap (λ t. a ++ t) is)
sign_by (Err e) s a b c x y is p q = tt

pub text_by : {T E : Type 0} (r : Result T E) (a b c x y : List ℕ) → b ≡ a ++ x → OnOk r (c ≡ b ++ y) → OnOk r (c ≡ a ++ (x ++ y))
text_by (Ok u) a b c x y p q = then_text a b c x y p q
text_by (Err e) a b c x y p q = tt
