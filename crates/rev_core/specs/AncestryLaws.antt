-- Lemmas about ancestries and their edges.
use Rattle.std.proofs.Common.{◌≡◌, ℕ, zero, suc, ◌+◌, ◌-◌, ◌<◌, ◌≤◌, ◌++◌, ◌∷◌, [], List, length, drop, get_or, ap, sym, arith, ◌∙◌, refl}
use Rattle.std.proofs.lemmas.List.{drop_more}
use Rattle.std.specs.List.{AllByRecursion}
use Rattle.rev_core.specs.Rev.{RevId, IsRev}
use Rattle.rev_core.specs.Ancestry.{FallsByOne, edges_of, numbered}

pub falls_numbered : (start : ℕ) (sigs : List (List ℕ)) → length sigs ≤ start → FallsByOne (numbered start sigs)
falls_numbered start [] h = tt
falls_numbered start (a ∷ []) h = tt
falls_numbered start (a ∷ (b ∷ sigs)) h = (omega arith, falls_numbered (start - 1) (b ∷ sigs) (omega arith))

pub length-numbered : (start : ℕ) (sigs : List (List ℕ)) → length (numbered start sigs) ≡ length sigs
length-numbered start [] = refl
length-numbered start (a ∷ sigs) = ap suc (length-numbered (start - 1) sigs)

pub each-push : (xs : List RevId) (r : RevId) → AllByRecursion IsRev xs → IsRev r → AllByRecursion IsRev (xs ++ r ∷ [])
each-push [] r h k = (k, tt)
each-push (x ∷ xs) r h k = (h.0, each-push xs r h.1 k)

-- If the first i revisions of an ancestry are dropped, the first remaining edge is from the ancestry's revision at
-- index i to the revision at index i + 1.
pub edges_at : (xs : List RevId) (i : ℕ) (d : RevId) → i + 1 < length xs → edges_of (drop i xs) ≡ (get_or xs i d, get_or xs (i + 1) d) ∷ edges_of (drop (i + 1) xs)
edges_at xs i d h = ap edges_of (drop_more xs i d (omega arith) ∙ ap (λ t. get_or xs i d ∷ t) (drop_more xs (i + 1) d h)) ∙ ap (λ t. (get_or xs i d, get_or xs (i + 1) d) ∷ edges_of t) (sym (drop_more xs (i + 1) d h))

pub edges_end : (xs : List RevId) (i : ℕ) → length xs ≤ i + 1 → edges_of (drop i xs) ≡ []
edges_end [] zero h = refl
edges_end [] (suc i) h = refl
edges_end (x ∷ []) zero h = refl
edges_end (x ∷ (y ∷ xs)) zero h = absurd (omega arith)
edges_end (x ∷ xs) (suc i) h = edges_end xs i (omega arith)
