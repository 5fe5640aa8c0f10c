-- The rising sequences of an index.
use Rattle.proof_prelude.proofs.{◌≡◌, ℕ, ◌<◌, ◌≤◌, List, [], ◌∷◌, ◌++◌, Bool, true, map, ap, ◌∙◌, arith, inl, inr, filter, cond_both}
use Rattle.couch_base.specs.{Among, Rises, Id, rises_from, rises_le, AllBelow}

-- the sequences of an index rise
abbrev pub Rising : ℕ → List (ℕ × Id) → ℕ → Type 0
Rising lo index hi = Rises lo (map (λ e. e.0) index) hi

pub rising_le : (lo : ℕ) (index : List (ℕ × Id)) (hi : ℕ) → Rising lo index hi → lo ≤ hi
rising_le lo index hi r = rises_le lo (map (λ e. e.0) index) hi r

pub member_over : (lo : ℕ) (index : List (ℕ × Id)) (hi : ℕ) (x : ℕ × Id) → Rising lo index hi → Among x index → lo < x.0
member_over lo [] hi x r m = absurd m
member_over lo (e ∷ es) hi x r (inl s) = let a : lo < e.0 = r.0 in let b : x.0 ≡ e.0 = ap (λ (p : ℕ × Id). p.0) s in omega (arith, a, b)
member_over lo (e ∷ es) hi x r (inr m) = let a : lo < e.0 = r.0 in let b : e.0 < x.0 = member_over e.0 es hi x r.1 m in omega (arith, a, b)

pub member_upto : (lo : ℕ) (index : List (ℕ × Id)) (hi : ℕ) (x : ℕ × Id) → Rising lo index hi → Among x index → x.0 ≤ hi
member_upto lo [] hi x r m = absurd m
member_upto lo (e ∷ es) hi x r (inl s) = let a : e.0 ≤ hi = rising_le e.0 es hi r.1 in let b : x.0 ≡ e.0 = ap (λ (p : ℕ × Id). p.0) s in omega (arith, a, b)
member_upto lo (e ∷ es) hi x r (inr m) = member_upto e.0 es hi x r.1 m

pub all_below : (index : List (ℕ × Id)) (hi s : ℕ) → Rising 0 index hi → hi < s → AllBelow s index
all_below index hi s r above x m = let a : x.0 ≤ hi = member_upto 0 index hi x r m in omega (arith, a, above)

pub rising_append : (lo : ℕ) (index : List (ℕ × Id)) (hi s : ℕ) (id : Id) → Rising lo index hi → hi < s → Rising lo (index ++ (s, id) ∷ []) s
rising_append lo [] hi s id r above = let a : lo ≤ hi = r in (omega (arith, a, above), omega arith)
rising_append lo (e ∷ es) hi s id r above = (r.0, rising_append e.0 es hi s id r.1 above)

pub rising_filter : (p : ℕ × Id → Bool) (lo : ℕ) (index : List (ℕ × Id)) (hi : ℕ) → Rising lo index hi → Rising lo (filter p index) hi
rising_filter p lo [] hi r = r
rising_filter p lo (e ∷ es) hi r =
    cond_both (p e) (e ∷ filter p es) (filter p es) (λ l. Rising lo l hi)
    (λ _. (r.0, rising_filter p e.0 es hi r.1))
    (λ _. rises_from lo e.0 (map (λ e. e.0) (filter p es)) hi (let a : lo < e.0 = r.0 in omega (arith, a)) (rising_filter p e.0 es hi r.1))

-- ---- members

-- an element that passes a test
pub among_filter : {X : Type 0} (p : X → Bool) (xs : List X) (x : X) → Among x (filter p xs) → (Among x xs) × (p x ≡ true)
among_filter p [] x m = absurd m
among_filter p (y ∷ ys) x m =
    cond_both (p y) (y ∷ filter p ys) (filter p ys) (λ l. Among x l → (Among x (y ∷ ys)) × (p x ≡ true))
    (λ hit k. elim k [ inl same ↦ (inl same, ap p same ∙ hit) | inr n ↦ let w = among_filter p ys x n in (inr w.0, w.1) ])
    (λ _ k. let w = among_filter p ys x k in (inr w.0, w.1)) m
