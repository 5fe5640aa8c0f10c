-- Signatures separated by commas, one after another.
use Rattle.proof_prelude.proofs.{◌≡◌, ℕ, zero, suc, ◌+◌, ◌<◌, List, [], ◌∷◌, ◌++◌, length, take, get_or, refl, sym, ap, ◌∙◌, arith, append_assoc, take_more}
use Rattle.rev_core.specs.{RevId}
use Rattle.doc_json.specs.{sig_text, sig_texts}

-- one more signature
sig_texts-push : (first : RevId) (revs : List RevId) (r : RevId) → sig_texts (first ∷ (revs ++ r ∷ [])) ≡ sig_texts (first ∷ revs) ++ 44 ∷ sig_text r
sig_texts-push first [] r = refl
sig_texts-push first (next ∷ revs) r =
    ap (λ t. sig_text first ++ 44 ∷ t) (sig_texts-push next revs r) ∙ sym (append_assoc (sig_text first) (44 ∷ sig_texts (next ∷ revs)) (44 ∷ sig_text r))

some_first : (revs : List RevId) (r : RevId) → 0 < length revs → sig_texts (revs ++ r ∷ []) ≡ sig_texts revs ++ 44 ∷ sig_text r
some_first [] r h = absurd (omega arith)
some_first (first ∷ revs) r h = sig_texts-push first revs r

taken : (revs : List RevId) (i : ℕ) → 0 < i → i < length revs → 0 < length (take i revs)
taken [] i low high = absurd (omega arith)
taken (r ∷ revs) zero low high = absurd (omega arith)
taken (r ∷ revs) (suc i) low high = omega arith

pub sig_texts-more : (revs : List RevId) (i : ℕ) (d : RevId) → 0 < i → i < length revs → sig_texts (take (i + 1) revs) ≡ sig_texts (take i revs) ++ 44 ∷ sig_text (get_or revs i d)
sig_texts-more revs i d low high = ap sig_texts (take_more revs i d high) ∙ some_first (take i revs) (get_or revs i d) (taken revs i low high)

pub sig_texts-first : (revs : List RevId) (i : ℕ) (d : RevId) → i ≡ 0 → i < length revs → sig_texts (take (i + 1) revs) ≡ sig_texts (take i revs) ++ sig_text (get_or revs i d)
sig_texts-first revs i d first high = ap sig_texts (take_more revs i d high) ∙ ap (λ n. sig_texts (take n revs ++ get_or revs i d ∷ [])) first ∙ sym (ap (λ n. sig_texts (take n revs) ++ sig_text (get_or revs i d)) first)
