-- Drawing rows in order.
use Rattle.proof_prelude.proofs.{◌≡◌, ℕ, zero, suc, ◌+◌, ◌<◌, ◌≤◌, List, [], ◌∷◌, ◌++◌, length, get_or, take, map, refl, sym, ap, subst, ◌∙◌, arith, map-append, take_more, flat_map-append, flat_map, append-nil}
use Rattle.output_parser.specs.{Column}
use Rattle.diagrams.specs.{Draws, Sign, count, counts_of}
use Rattle.diagrams.proofs.Inks.{drawn_then}

pub rows_more : {T : Type 0} (f : T → Sign) (a b c : List ℕ) (leaves : List T) (i : ℕ) (leaf : T) → i < length leaves → leaf ≡ get_or leaves i leaf → Draws a b (map f (take i leaves)) → Draws b c (f leaf ∷ []) → Draws a c (map f (take (i + 1) leaves))
rows_more f a b c leaves i leaf low is p q =
    let more = take_more leaves i leaf low in
    subst (λ xs. Draws a c xs)
    (sym (ap (map f) (more ∙ ap (λ x. take i leaves ++ x ∷ []) (sym is)) ∙ map-append f (take i leaves) (leaf ∷ [])))
    (drawn_then a b c (map f (take i leaves)) (f leaf ∷ []) p q)

pub all_more : {T : Type 0} (f : T → List Sign) (a b c : List ℕ) (xs : List T) (i : ℕ) (x : T) → i < length xs → x ≡ get_or xs i x → Draws a b (flat_map f (take i xs)) → Draws b c (f x) → Draws a c (flat_map f (take (i + 1) xs))
all_more f a b c xs i x low is p q =
    let more = take_more xs i x low in
    subst (λ signs. Draws a c signs)
    (sym (ap (flat_map f) (more ∙ ap (λ y. take i xs ++ y ∷ []) (sym is)) ∙ (flat_map-append f (take i xs) (x ∷ [])
    ∙ ap (λ ys. flat_map f (take i xs) ++ ys) (append-nil (f x)))))
    (drawn_then a b c (flat_map f (take i xs)) (f x) p q)

-- ---- numbers by their columns

none_first : (ns : List ℕ) → counts_of [] ns ≡ []
none_first [] = refl
none_first (n ∷ ns) = refl

counts_next : (cs : List Column) (ns : List ℕ) (i : ℕ) (d : Column) (n : ℕ) → i < length cs → i < length ns → n ≡ get_or ns i 0 → counts_of (take (suc i) cs) ns ≡ counts_of (take i cs) ns ++ count (get_or cs i d) n ∷ []
counts_next [] ns i d n low few q = absurd (omega (arith, low))
counts_next (c ∷ cs) [] i d n low few q = absurd (omega (arith, few))
counts_next (c ∷ cs) (m ∷ ns) zero d n low few q = ap (λ s. count c m ∷ s) (none_first ns) ∙ ap (λ y. count c y ∷ []) (sym q)
counts_next (c ∷ cs) (m ∷ ns) (suc i) d n low few q =
    ap (λ s. count c m ∷ s) (counts_next cs ns i d n (omega (arith, low)) (omega (arith, few)) q)

next_index : (i : ℕ) → suc i ≡ i + 1
next_index i = omega arith

pub counts_more : (a b c : List ℕ) (cs : List Column) (ns : List ℕ) (i : ℕ) (d : Column) (n : ℕ) → i < length cs → i < length ns → n ≡ get_or ns i 0 → Draws a b (counts_of (take i cs) ns) → Draws b c (count (get_or cs i d) n ∷ []) → Draws a c (counts_of (take (i + 1) cs) ns)
counts_more a b c cs ns i d n low few q h k =
    subst (λ j. Draws a c (counts_of (take j cs) ns)) (next_index i)
    (subst (λ s. Draws a c s) (sym (counts_next cs ns i d n low few q))
    (drawn_then a b c (counts_of (take i cs) ns) (count (get_or cs i d) n ∷ []) h k))

none_of : (cs : List Column) → counts_of cs [] ≡ []
none_of [] = refl
none_of (c ∷ cs) = refl

-- no number is left
pub counts_few : (cs : List Column) (ns : List ℕ) (i : ℕ) → length ns ≤ i → counts_of (take i cs) ns ≡ counts_of cs ns
counts_few cs [] i low = none_of (take i cs) ∙ sym (none_of cs)
counts_few cs (n ∷ ns) zero low = absurd (omega (arith, low))
counts_few [] (n ∷ ns) (suc i) low = refl
counts_few (c ∷ cs) (n ∷ ns) (suc i) low = ap (λ s. count c n ∷ s) (counts_few cs ns i (omega (arith, low)))

pub counts_all : (a b : List ℕ) (cs : List Column) (ns : List ℕ) (i : ℕ) → length ns ≤ i → Draws a b (counts_of (take i cs) ns) → Draws a b (counts_of cs ns)
counts_all a b cs ns i low h = subst (λ s. Draws a b s) (counts_few cs ns i low) h
