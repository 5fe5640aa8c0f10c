-- Revisions of which each is one generation below the previous one: the position of each.
use Rattle.proof_prelude.proofs.{◌≡◌, ℕ, zero, suc, ◌+◌, ◌-◌, ◌<◌, ◌≤◌, ◌&&◌, List, [], ◌∷◌, length, take, drop, get_or, Some, None, true, false, slice_get, sym, ap, ◌∙◌, refl, arith, and_parts, false≢true, slice_get-get_or, same_Some, eq_by_cmp, drop_more, nat_eq, take-map, eqb-true, length-drop}
use Rattle.rev_core.specs.{RevId, rev_cmp, rev_tie_self}
use Rattle.rev_tree.specs.{falls, noted_from, place_of, revs_in, NodeValue}
use Rattle.rev_tree.proofs.Places.{place_known, read_at, rev_at_place}
use Rattle.rev_tree.proofs.Linking.{length-revs_in}

-- the revision at index j is j generations below the first
pub fallen_at : (revs : List RevId) (j : ℕ) (d : RevId) → falls revs ≡ true → j < length revs → (get_or revs j d).generation + j ≡ (get_or revs 0 d).generation
fallen_at [] j d f low = absurd (omega arith)
fallen_at (r ∷ revs) zero d f low = omega arith
fallen_at (r ∷ []) (suc j) d f low = absurd (omega arith)
fallen_at (r ∷ (s ∷ revs)) (suc j) d f low =
    let parts = and_parts _ _ f in
    let first = eqb-true r.generation (s.generation + 1) parts.0 in
    let later = fallen_at (s ∷ revs) j d parts.1 (omega arith) in
    omega (arith, first, later)

-- if the first k + 1 revisions fall, all fall if those from k on do
pub falls_split : (k : ℕ) (revs : List RevId) → k < length revs → falls (take (suc k) revs) ≡ true → falls revs ≡ falls (drop k revs)
falls_split k [] low f = absurd (omega arith)
falls_split zero (r ∷ revs) low f = refl
falls_split (suc k) (r ∷ []) low f = absurd (omega arith)
falls_split (suc k) (r ∷ (s ∷ revs)) low f =
    let parts = and_parts _ _ f in
    ap (λ b. b && falls (s ∷ revs)) parts.0 ∙ falls_split k (s ∷ revs) (omega arith) parts.1

-- if all fall, the first k do
pub falls_front : (k : ℕ) (revs : List RevId) → falls revs ≡ true → falls (take k revs) ≡ true
falls_front zero [] f = refl
falls_front zero (r ∷ revs) f = refl
falls_front (suc k) [] f = refl
falls_front (suc zero) (r ∷ []) f = refl
falls_front (suc zero) (r ∷ (s ∷ revs)) f = refl
falls_front (suc (suc k)) (r ∷ []) f = refl
falls_front (suc (suc k)) (r ∷ (s ∷ revs)) f =
    let parts = and_parts _ _ f in
    ap (λ b. b && falls (take (suc k) (s ∷ revs))) parts.0 ∙ falls_front (suc k) (s ∷ revs) parts.1

-- one more revision
pub falls_step : (revs : List RevId) (i : ℕ) (d : RevId) → 1 ≤ i → i < length revs → falls (drop (i - 1) revs) ≡ (nat_eq (get_or revs (i - 1) d).generation ((get_or revs i d).generation + 1) && falls (drop i revs))
falls_step revs i d one low =
    let a = get_or revs (i - 1) d in
    let b = get_or revs i d in
    let n : i - 1 + 1 ≡ i = omega arith in
    let here = drop_more revs i d low in
    ap falls (drop_more revs (i - 1) d (omega arith) ∙ ap (λ k. a ∷ drop k revs) n ∙ ap (λ l. a ∷ l) here)
    ∙ ap (λ l. nat_eq a.generation (b.generation + 1) && falls l) (sym here)

falls_short : (revs : List RevId) → length revs ≤ 1 → falls revs ≡ true
falls_short [] h = refl
falls_short (r ∷ []) h = refl
falls_short (r ∷ (s ∷ revs)) h = absurd (omega arith)

pub falls_end : (revs : List RevId) (i : ℕ) → length revs ≤ i + 1 → falls (drop i revs) ≡ true
falls_end revs i h = falls_short (drop i revs) (omega (arith, length-drop i revs))

-- ---- of nodes

rev_read : (nodes : List NodeValue) (k : ℕ) (n : NodeValue) → k < length nodes → n ≡ get_or nodes k n → get_or (revs_in nodes) k n.rev ≡ n.rev
rev_read nodes k n low is =
    same_Some (get_or (revs_in nodes) k n.rev) n.rev
    (sym (slice_get-get_or (revs_in nodes) k n.rev (omega (arith, low, length-revs_in nodes))) ∙ rev_at_place nodes k n (read_at nodes k n low is))

pub nodes_step : (nodes : List NodeValue) (i : ℕ) (a b : NodeValue) → 1 ≤ i → i < length nodes → a ≡ get_or nodes (i - 1) a → b ≡ get_or nodes i b → falls (drop (i - 1) (revs_in nodes)) ≡ (nat_eq a.rev.generation (b.rev.generation + 1) && falls (drop i (revs_in nodes)))
nodes_step nodes i a b one low ia ib =
    let revs = revs_in nodes in
    let first : get_or revs (i - 1) b.rev ≡ a.rev =
    same_Some (get_or revs (i - 1) b.rev) a.rev
    (sym (slice_get-get_or revs (i - 1) b.rev (omega (arith, low, length-revs_in nodes))) ∙ rev_at_place nodes (i - 1) a (read_at nodes (i - 1) a (omega arith) ia)) in
    let second = rev_read nodes i b low ib in
    falls_step revs i b.rev one (omega (arith, low, length-revs_in nodes))
    ∙ (λ k. nat_eq (first k).generation ((second k).generation + 1) && falls (drop i revs))

-- the generation determines the position of a revision
pub fallen_place : (nodes : List NodeValue) (q : RevId) (j : ℕ) (top : NodeValue) → falls (revs_in nodes) ≡ true → top ≡ get_or nodes 0 top → place_of nodes q ≡ Some j → q.generation + j ≡ top.rev.generation
fallen_place nodes q j top f first is =
    let revs = revs_in nodes in
    let found = place_known nodes q j is in
    let low : j < length revs = omega (arith, found.within, length-revs_in nodes) in
    let here : get_or revs j q ≡ q =
    same_Some (get_or revs j q) q (sym (slice_get-get_or revs j q low) ∙ rev_at_place nodes j found.node found.at ∙ ap Some found.rev) in
    let zeroth : get_or revs 0 q ≡ top.rev =
    same_Some (get_or revs 0 q) top.rev
    (sym (slice_get-get_or revs 0 q (omega (arith, low))) ∙ rev_at_place nodes 0 top (read_at nodes 0 top (omega (arith, found.within)) first)) in
    ap (λ (r : RevId). r.generation + j) (sym here) ∙ fallen_at revs j q f low ∙ ap (λ (r : RevId). r.generation) zeroth

pub nowhere : (nodes : List NodeValue) (q : RevId) → ((j : ℕ) → place_of nodes q ≡ Some j → ⊥) → place_of nodes q ≡ None
nowhere nodes q h = elim (place_of nodes q) as (λ o. place_of nodes q ≡ o → place_of nodes q ≡ None) [ None ↦ λ e. e | Some j ↦ λ e. absurd (h j e) ] refl

-- if another revision is at that position, the revision is not in the list
pub fallen_missed : (nodes : List NodeValue) (q : RevId) (p : ℕ) (top n : NodeValue) → falls (revs_in nodes) ≡ true → top ≡ get_or nodes 0 top → slice_get nodes p ≡ Some n → eq_by_cmp rev_cmp q n.rev ≡ false → q.generation + p ≡ top.rev.generation → place_of nodes q ≡ None
fallen_missed nodes q p top n f first at other sum =
    nowhere nodes q (λ j is.
    let found = place_known nodes q j is in
    let told = fallen_place nodes q j top f first is in
    let same : p ≡ j = omega (arith, told, sum) in
    let node = same_Some n found.node (sym at ∙ ap (slice_get nodes) same ∙ found.at) in
    false≢true (sym other ∙ ap (λ (x : NodeValue). eq_by_cmp rev_cmp q x.rev) node ∙ ap (eq_by_cmp rev_cmp q) found.rev ∙ rev_tie_self q))

-- a list that does not fall does not fall when it grows
pub stays_unfallen : (nodes : List NodeValue) (k : ℕ) → falls (revs_in (take k nodes)) ≡ false → falls (revs_in nodes) ≡ false
stays_unfallen nodes k other =
    elim (falls (revs_in nodes)) as (λ b. falls (revs_in nodes) ≡ b → b ≡ false) [
      | true ↦ λ f. absurd (false≢true (sym other ∙ ap falls (sym (take-map (λ (n : NodeValue). n.rev) k nodes)) ∙ falls_front k (revs_in nodes) f))
      | false ↦ λ _. refl
    ] refl

pub none_first : (nodes : List NodeValue) → [] ≡ noted_from [] 0 (revs_in (take 0 nodes))
none_first [] = refl
none_first (n ∷ nodes) = refl

pub all_behind : (revs : List RevId) → drop 0 revs ≡ revs
all_behind [] = refl
all_behind (r ∷ revs) = refl
