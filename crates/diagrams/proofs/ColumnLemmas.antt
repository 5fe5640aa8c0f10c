-- The marked generations and the columns of a drawing.
use Rattle.proof_prelude.proofs.{◌≡◌, ℕ, suc, zero, ◌+◌, ◌-◌, ◌<◌, ◌≤◌, ◌++◌, ◌∷◌, List, [], IsPermutation, arith, refl, sym, subst, ap, ap₂, ◌∙◌, append_assoc, append-nil, flat_map, flat_map-append, get_or, length, map, map-append, min, take, take_all, take_more, nat_cmp, eqb}
use Rattle.std.specs.List.{Contains, dedup, zip}
use Rattle.std.specs.List.Sorted.{IsSorted}
use Rattle.std.proofs.lemmas.List.Kept.{Contains-dedup_nat, Contains-from_dedup}
use Rattle.std.proofs.lemmas.List.Sorted.{Contains-permutation, IsPermutation-sym}
use Rattle.std.proofs.lemmas.Map.Keys.{IsStrictlyIncreasing-dedup}
use Rattle.std.proofs.lemmas.Slice.Zip.{get_or-zip, length-zip}
use Rattle.diagrams.specs.{Leaf}
use Rattle.diagrams.specs.declared.rows.Row.{Row}
use Rattle.diagrams.specs.Columns.{AreMarked, between, marks, marks_of, spans}

-- ---- marked generations

is_in_zip : (leaves : List Leaf) (rows : List Row) (i : ℕ) → i < length leaves → i < length rows → i < length (zip leaves rows)
is_in_zip leaves rows i low few = subst (λ n. i < n) (sym (length-zip leaves rows)) (omega (arith, low, few))

pair_of : Leaf → Row → Leaf × Row
pair_of leaf row = (leaf, row)

-- The marks after one more row.
pub marks_next : (leaves : List Leaf) (rows : List Row) (i : ℕ) (leaf : Leaf) (row : Row) → i < length leaves → i < length rows → leaf ≡ get_or leaves i leaf → row ≡ get_or rows i row → flat_map marks_of (take (i + 1) (zip leaves rows)) ≡ flat_map marks_of (take i (zip leaves rows)) ++ marks_of (leaf, row)
unfolding pair_of
marks_next leaves rows i leaf row low few is_leaf is_row =
    let zs = zip leaves rows in
    let z : Leaf × Row = (leaf, row) in
    ap (flat_map marks_of) (take_more zs i z (is_in_zip leaves rows i low few))
    ∙ flat_map-append marks_of (take i zs) (get_or zs i z ∷ [])
    ∙ ap (λ ys. flat_map marks_of (take i zs) ++ ys) (append-nil (marks_of (get_or zs i z)) ∙ ap marks_of (get_or-zip leaves rows i z low few ∙ ap₂ pair_of (sym is_leaf) (sym is_row)))

-- The marks after the last row.
pub marks_all : (leaves : List Leaf) (rows : List Row) (i : ℕ) → min (length leaves) (length rows) ≤ i → flat_map marks_of (take i (zip leaves rows)) ≡ marks leaves rows
marks_all leaves rows i most = ap (flat_map marks_of) (take_all i (zip leaves rows) (subst (λ n. n ≤ i) (sym (length-zip leaves rows)) most))

marked_by : (leaves : List Leaf) (rows : List Row) (sorted : List ℕ) → IsPermutation (marks leaves rows) sorted → IsSorted nat_cmp sorted → AreMarked leaves rows (dedup eqb sorted)
marked_by leaves rows sorted moved rises = record {
  rising = IsStrictlyIncreasing-dedup sorted rises;
  every = λ g has. Contains-dedup_nat sorted g (Contains-permutation (marks leaves rows) sorted g moved has);
  only = λ g has. Contains-permutation sorted (marks leaves rows) g (IsPermutation-sym (marks leaves rows) sorted moved) (Contains-from_dedup eqb sorted g has);
}

-- The marks, sorted and without repetitions, are the marked generations.
pub marked_from : (leaves : List Leaf) (rows : List Row) (all sorted kept : List ℕ) → all ≡ marks leaves rows → IsPermutation all sorted → IsSorted nat_cmp sorted → kept ≡ dedup eqb sorted → AreMarked leaves rows kept
marked_from leaves rows all sorted kept is moved rises left =
    subst (λ ys. AreMarked leaves rows ys) (sym left) (marked_by leaves rows sorted (subst (λ ys. IsPermutation ys sorted) is moved) rises)

-- ---- columns

-- The columns after one more marked generation.
pub spans_more : (xs : List ℕ) (one next : ℕ) → spans ((xs ++ one ∷ []) ++ next ∷ []) ≡ spans (xs ++ one ∷ []) ++ (between one next ++ (next, next) ∷ [])
spans_more [] one next = refl
spans_more (x ∷ []) one next = ap (λ rest. (x, x) ∷ rest) (sym (append_assoc (between x one) ((one, one) ∷ []) (between one next ++ (next, next) ∷ [])))
spans_more (x ∷ (y ∷ ys)) one next =
    ap (λ rest. (x, x) ∷ (between x y ++ rest)) (spans_more (y ∷ ys) one next)
    ∙ ap (λ rest. (x, x) ∷ rest) (sym (append_assoc (between x y) (spans ((y ∷ ys) ++ one ∷ [])) (between one next ++ (next, next) ∷ [])))

pub columns_first : {C : Type 0} (f : ℕ × ℕ → C) (xs : List ℕ) (i : ℕ) (d : ℕ) → i < length xs → i < 1 → map f (spans (take (i + 1) xs)) ≡ map f (spans (take i xs)) ++ f (get_or xs i d, get_or xs i d) ∷ []
columns_first f [] i d low none = absurd (omega (arith, low))
columns_first f (x ∷ xs) zero d low none = refl
columns_first f (x ∷ xs) (suc i) d low none = absurd (omega (arith, none))

after_next : {C : Type 0} (f : ℕ × ℕ → C) (xs : List ℕ) (j : ℕ) (d e : ℕ) → j + 1 < length xs → map f (spans (take ((j + 1) + 1) xs)) ≡ (map f (spans (take (j + 1) xs)) ++ map f (between (get_or xs j e) (get_or xs (j + 1) d))) ++ f (get_or xs (j + 1) d, get_or xs (j + 1) d) ∷ []
after_next f xs j d e low =
    let one = get_or xs j e in
    let next = get_or xs (j + 1) d in
    let short = take_more xs j e (omega (arith, low)) in
    let long = take_more xs (j + 1) d low ∙ ap (λ ys. ys ++ next ∷ []) short in
    ap (λ ys. map f (spans ys)) long
    ∙ ap (map f) (spans_more (take j xs) one next)
    ∙ map-append f (spans (take j xs ++ one ∷ [])) (between one next ++ (next, next) ∷ [])
    ∙ ap (λ ys. map f (spans (take j xs ++ one ∷ [])) ++ ys) (map-append f (between one next) ((next, next) ∷ []))
    ∙ sym (append_assoc (map f (spans (take j xs ++ one ∷ []))) (map f (between one next)) (f (next, next) ∷ []))
    ∙ ap (λ ys. (map f (spans ys) ++ map f (between one next)) ++ f (next, next) ∷ []) (sym short)

-- The columns after a marked generation that is not the first.
pub columns_next : {C : Type 0} (f : ℕ × ℕ → C) (xs : List ℕ) (i j : ℕ) (d e : ℕ) → i ≡ j + 1 → i < length xs → map f (spans (take (i + 1) xs)) ≡ (map f (spans (take i xs)) ++ map f (between (get_or xs j e) (get_or xs i d))) ++ f (get_or xs i d, get_or xs i d) ∷ []
columns_next f xs i j d e is low =
    subst (λ k. map f (spans (take (k + 1) xs)) ≡ (map f (spans (take k xs)) ++ map f (between (get_or xs j e) (get_or xs k d))) ++ f (get_or xs k d, get_or xs k d) ∷ [])
    (sym is) (after_next f xs j d e (subst (λ k. k < length xs) is low))
