-- The index of the nodes: none while they can be scanned, hashes otherwise.
use Rattle.proof_prelude.proofs.{◌≡◌, ℕ, suc, ◌+◌, ◌<◌, ◌≤◌, ◌&&◌, ◌||◌, List, [], ◌∷◌, ◌++◌, length, take, drop, get_or, Option, Some, None, Bool, true, false, not, cond, is_some, inl, inr, sym, ap, ◌∙◌, subst, refl, arith, length-append, length-take, false≢true, and-false, drop_more, drop_all, nat_eq, nat_lt, eq_by_cmp, option_or, lookup, same_Some, lt-ltb, ltb-true, eq-eqb, eqb-true}
use Rattle.std.specs.FinMap.{find}
use Rattle.rev_core.specs.{RevId, rev_cmp, rev_tie_is, is_among}
use Rattle.rev_tree.specs.{some_or, falls, index_for, mark_of, noted, noted_from, revs_in, places_from, NodeValue, MOST_WALKED}
use Rattle.rev_tree.proofs.Linking.{length-revs_in}
use Rattle.rev_tree.proofs.Leaves.{revs_more}

-- the index of many nodes: empty if they fall, else all hashes
pub index_many : (revs : List RevId) → MOST_WALKED < length revs → falls revs ≡ false → index_for revs ≡ noted_from [] 0 revs
index_many revs many stays =
    ap (λ b. cond (b && not (falls revs)) (noted_from [] 0 revs) []) (lt-ltb MOST_WALKED (length revs) many)
    ∙ ap (λ b. cond (not b) (noted_from [] 0 revs) []) stays

pub index_fallen : (revs : List RevId) → falls revs ≡ true → index_for revs ≡ []
index_fallen revs f =
    ap (λ b. cond (nat_lt MOST_WALKED (length revs) && not b) (noted_from [] 0 revs) []) f
    ∙ ap (λ b. cond b (noted_from [] 0 revs) []) (and-false (nat_lt MOST_WALKED (length revs)))

pub index_few : (revs : List RevId) → length revs ≤ MOST_WALKED → index_for revs ≡ []
index_few revs few =
    elim (nat_lt MOST_WALKED (length revs)) as (λ b. nat_lt MOST_WALKED (length revs) ≡ b → cond (b && not (falls revs)) (noted_from [] 0 revs) [] ≡ []) [
      | true ↦ λ e. absurd (omega (arith, ltb-true MOST_WALKED (length revs) e, few))
      | false ↦ λ _. refl
    ] refl

-- what follows from an empty or nonempty index
pub index_gone : (revs : List RevId) (es : List (ℕ × ℕ)) → es ≡ index_for revs → nat_eq (length es) 0 ≡ true → index_for revs ≡ []
index_gone revs [] is h = sym is
index_gone revs (e ∷ es) is h = absurd (omega (arith, eqb-true (length (e ∷ es)) 0 h))

-- if the index has entries, the revisions are many and do not fall
pub index_told : (revs : List RevId) → 0 < length (index_for revs) → (MOST_WALKED < length revs) × (falls revs ≡ false)
index_told revs some =
    elim (nat_lt MOST_WALKED (length revs)) as (λ b. nat_lt MOST_WALKED (length revs) ≡ b → 0 < length (cond (b && not (falls revs)) (noted_from [] 0 revs) []) → (MOST_WALKED < length revs) × (falls revs ≡ false)) [
      | true ↦ λ e. elim (falls revs) as (λ f. falls revs ≡ f → 0 < length (cond (not f) (noted_from [] 0 revs) []) → (MOST_WALKED < length revs) × (falls revs ≡ false)) [
        | true ↦ λ _ h. absurd (omega arith)
        | false ↦ λ f _. (ltb-true MOST_WALKED (length revs) e, f)
      ] refl
      | false ↦ λ _ h. absurd (omega arith)
    ] refl some

pub index_held : (revs : List RevId) (es : List (ℕ × ℕ)) → es ≡ index_for revs → nat_eq (length es) 0 ≡ false → (MOST_WALKED < length revs) × (falls revs ≡ false)
index_held revs [] is h = absurd (false≢true (sym h))
index_held revs (e ∷ es) is h = index_told revs (omega (arith, ap length is))

-- ---- one more hash

lookup_push : (t : ℕ → Bool) (es : List (ℕ × ℕ)) (m i : ℕ) → lookup t (es ++ (m, i) ∷ []) ≡ option_or (lookup t es) (cond (t m) (Some i) None)
lookup_push t [] m i = refl
lookup_push t (e ∷ es) m i =
    elim (t e.0) as (λ b. cond b (Some e.1) (lookup t (es ++ (m, i) ∷ [])) ≡ option_or (cond b (Some e.1) (lookup t es)) (cond (t m) (Some i) None)) [
      | true ↦ refl
      | false ↦ lookup_push t es m i
    ]

length_noted : (es : List (ℕ × ℕ)) (m i : ℕ) → length (noted es m i) ≤ length es + 1
length_noted es m i =
    elim (is_some (lookup (nat_eq m) es)) as (λ b. length (cond b es (es ++ (m, i) ∷ [])) ≤ length es + 1) [
      | true ↦ omega arith
      | false ↦ omega (arith, length-append es ((m, i) ∷ []))
    ]

some_first : (a b : Option ℕ) → is_some a ≡ true → is_some (option_or a b) ≡ true
some_first None b h = absurd (false≢true h)
some_first (Some x) b h = refl

some_last : (a : Option ℕ) (i : ℕ) → is_some (option_or a (Some i)) ≡ true
some_last None i = refl
some_last (Some x) i = refl

-- a hash that has a position keeps one
noted_kept : (q : ℕ) (es : List (ℕ × ℕ)) (m i : ℕ) → is_some (lookup (nat_eq q) es) ≡ true → is_some (lookup (nat_eq q) (noted es m i)) ≡ true
noted_kept q es m i h =
    elim (is_some (lookup (nat_eq m) es)) as (λ b. is_some (lookup (nat_eq q) (cond b es (es ++ (m, i) ∷ []))) ≡ true) [
      | true ↦ h
      | false ↦ ap is_some (lookup_push (nat_eq q) es m i) ∙ some_first (lookup (nat_eq q) es) _ h
    ]

-- an added hash has a position
noted_there : (es : List (ℕ × ℕ)) (m i : ℕ) → is_some (lookup (nat_eq m) (noted es m i)) ≡ true
noted_there es m i =
    elim (is_some (lookup (nat_eq m) es)) as (λ b. is_some (lookup (nat_eq m) es) ≡ b → is_some (lookup (nat_eq m) (cond b es (es ++ (m, i) ∷ []))) ≡ true) [
      | true ↦ λ h. h
      | false ↦ λ _.
          ap is_some (lookup_push (nat_eq m) es m i)
          ∙ ap (λ b. is_some (option_or (lookup (nat_eq m) es) (cond b (Some i) None))) (eq-eqb m m refl)
          ∙ some_last (lookup (nat_eq m) es) i
    ] refl

-- each position is below a bound
abbrev Below : List (ℕ × ℕ) → ℕ → Type 0
Below es n = (q p : ℕ) → lookup (nat_eq q) es ≡ Some p → p < n

noted_below : (es : List (ℕ × ℕ)) (m i : ℕ) → Below es i → Below (noted es m i) (i + 1)
noted_below es m i low q p is =
    elim (is_some (lookup (nat_eq m) es)) as (λ b. lookup (nat_eq q) (cond b es (es ++ (m, i) ∷ [])) ≡ Some p → p < i + 1) [
      | true ↦ λ e. omega (arith, low q p e)
      | false ↦ λ e. elim (some_or (lookup (nat_eq q) es) _ p (sym (lookup_push (nat_eq q) es m i) ∙ e)) [
        | inl old ↦ omega (arith, low q p old)
        | inr new ↦ only (nat_eq q m) new.1
      ]
    ] is
  where
    only : (b : Bool) → cond b (Some i) None ≡ Some p → p < i + 1
    only true h = omega (arith, same_Some i p h)
    only false h = absurd (false≢true (ap is_some h))

-- ---- the hashes of revisions

length_noted_from : (es : List (ℕ × ℕ)) (i : ℕ) (revs : List RevId) → length (noted_from es i revs) ≤ length es + length revs
length_noted_from es i [] = omega arith
length_noted_from es i (r ∷ revs) =
    omega (arith, length_noted es (mark_of r) i, length_noted_from (noted es (mark_of r) i) (i + 1) revs)

-- there are no more entries than nodes
pub length_marks : (revs : List RevId) → length (noted_from [] 0 revs) ≤ length revs
length_marks revs = omega (arith, length_noted_from [] 0 revs)

pub index_short : (revs : List RevId) (index : List (ℕ × ℕ)) → index ≡ index_for revs → length index ≤ length revs
index_short revs index is =
    elim (nat_lt MOST_WALKED (length revs) && not (falls revs)) as (λ b. index ≡ cond b (noted_from [] 0 revs) [] → length index ≤ length revs) [
      | true ↦ λ e. omega (arith, ap length e, length_marks revs)
      | false ↦ λ e. omega (arith, ap length e)
    ] is

all_kept : (q : ℕ) (es : List (ℕ × ℕ)) (i : ℕ) (revs : List RevId) → is_some (lookup (nat_eq q) es) ≡ true → is_some (lookup (nat_eq q) (noted_from es i revs)) ≡ true
all_kept q es i [] h = h
all_kept q es i (r ∷ revs) h = all_kept q (noted es (mark_of r) i) (i + 1) revs (noted_kept q es (mark_of r) i h)

some_found : (q : ℕ) (es : List (ℕ × ℕ)) → is_some (lookup (nat_eq q) es) ≡ true → 0 < length es
some_found q [] h = absurd (false≢true h)
some_found q (e ∷ es) h = omega arith

some_noted : (revs : List RevId) → 0 < length revs → 0 < length (noted_from [] 0 revs)
some_noted [] h = absurd (omega arith)
some_noted (r ∷ revs) h =
    some_found (mark_of r) (noted_from [] 0 (r ∷ revs)) (all_kept (mark_of r) (noted [] (mark_of r) 0) 1 revs (noted_there [] (mark_of r) 0))

-- many revisions with an empty index fall
pub index_empty : (revs : List RevId) → MOST_WALKED < length revs → length (index_for revs) ≡ 0 → falls revs ≡ true
index_empty revs many none =
    elim (falls revs) as (λ f. falls revs ≡ f → f ≡ true) [
      | true ↦ λ _. refl
      | false ↦ λ e. absurd (omega (arith, some_noted revs (omega (arith, many)), ap length (index_many revs many e), none))
    ] refl

-- a revision whose hash has no position is not in the list
pub unmarked : (es : List (ℕ × ℕ)) (i : ℕ) (revs : List RevId) (q : RevId) → is_some (lookup (nat_eq (mark_of q)) (noted_from es i revs)) ≡ false → is_among q revs ≡ false
unmarked es i [] q h = refl
unmarked es i (r ∷ revs) q h =
    elim (eq_by_cmp rev_cmp q r) as (λ b. eq_by_cmp rev_cmp q r ≡ b → (b || is_among q revs) ≡ false) [
      | true ↦ λ tie.
          let there = subst (λ x. is_some (lookup (nat_eq (mark_of x)) (noted es (mark_of r) i)) ≡ true) (sym (rev_tie_is q r tie)) (noted_there es (mark_of r) i) in
          absurd (false≢true (sym h ∙ all_kept (mark_of q) (noted es (mark_of r) i) (i + 1) revs there))
      | false ↦ λ _. unmarked (noted es (mark_of r) i) (i + 1) revs q h
    ] refl

all_below : (es : List (ℕ × ℕ)) (i : ℕ) (revs : List RevId) → Below es i → Below (noted_from es i revs) (i + length revs)
all_below es i [] low q p is = omega (arith, low q p is)
all_below es i (r ∷ revs) low q p is =
    omega (arith, all_below (noted es (mark_of r) i) (i + 1) revs (noted_below es (mark_of r) i low) q p is)

-- each position is in range
pub marks_within : (revs : List RevId) (q p : ℕ) → lookup (nat_eq q) (noted_from [] 0 revs) ≡ Some p → p < length revs
marks_within revs q p is = omega (arith, all_below [] 0 revs (λ q p h. absurd (false≢true (ap is_some h))) q p is)

noted_push : (es : List (ℕ × ℕ)) (i : ℕ) (revs : List RevId) (r : RevId) → noted_from es i (revs ++ r ∷ []) ≡ noted (noted_from es i revs) (mark_of r) (i + length revs)
noted_push es i [] r = let e : i ≡ i + 0 = omega arith in ap (noted es (mark_of r)) e
noted_push es i (x ∷ revs) r =
    let e : i + 1 + length revs ≡ i + suc (length revs) = omega arith in
    noted_push (noted es (mark_of x) i) (i + 1) revs r ∙ ap (noted (noted_from (noted es (mark_of x) i) (i + 1) revs) (mark_of r)) e

pub marks_more : (nodes : List NodeValue) (i : ℕ) (n : NodeValue) → i < length nodes → n ≡ get_or nodes i n → noted (noted_from [] 0 (revs_in (take i nodes))) (mark_of n.rev) i ≡ noted_from [] 0 (revs_in (take (i + 1) nodes))
marks_more nodes i n low is =
    let long : i ≡ 0 + length (revs_in (take i nodes)) = omega (arith, length-revs_in (take i nodes), length-take i nodes) in
    ap (noted (noted_from [] 0 (revs_in (take i nodes))) (mark_of n.rev)) long
    ∙ sym (noted_push [] 0 (revs_in (take i nodes)) n.rev)
    ∙ ap (noted_from [] 0) (sym (revs_more nodes i n low is))

-- ---- scanning for a revision

pub walk_here : (nodes : List NodeValue) (i : ℕ) (d : NodeValue) (q : RevId) → i < length nodes → eq_by_cmp rev_cmp q (get_or nodes i d).rev ≡ true → find rev_cmp q (places_from i (revs_in (drop i nodes))) ≡ Some i
walk_here nodes i d q low tie =
    ap (λ l. find rev_cmp q (places_from i (revs_in l))) (drop_more nodes i d low)
    ∙ ap (λ b. cond b (Some i) (find rev_cmp q (places_from (i + 1) (revs_in (drop (i + 1) nodes))))) tie

pub walk_later : (nodes : List NodeValue) (i : ℕ) (d : NodeValue) (q : RevId) → i < length nodes → eq_by_cmp rev_cmp q (get_or nodes i d).rev ≡ false → find rev_cmp q (places_from i (revs_in (drop i nodes))) ≡ find rev_cmp q (places_from (i + 1) (revs_in (drop (i + 1) nodes)))
walk_later nodes i d q low other =
    ap (λ l. find rev_cmp q (places_from i (revs_in l))) (drop_more nodes i d low)
    ∙ ap (λ b. cond b (Some i) (find rev_cmp q (places_from (i + 1) (revs_in (drop (i + 1) nodes))))) other

pub walk_end : (nodes : List NodeValue) (i : ℕ) (q : RevId) → length nodes ≤ i → find rev_cmp q (places_from i (revs_in (drop i nodes))) ≡ None
walk_end nodes i q high = ap (λ l. find rev_cmp q (places_from i (revs_in l))) (drop_all i nodes high)
