-- Ends of pages that are known without reading rows.
use Rattle.proof_prelude.proofs.{◌≡◌, ℕ, zero, suc, ◌<◌, ◌≤◌, List, [], ◌∷◌, Bool, true, false, cond, filter, map, length, take, get_or, min, sym, ap, ◌∙◌, refl, arith, inl, inr, ◌==◌, nat_le, nat_lt, AllWithin, IsPartitionPoint, cond_both, cases_Bool, length-map, length-take, take_all}
use Rattle.std.proofs.lemmas.List.{take-take, take-map}
use Rattle.couch_base.specs.{Among, Id, TableValue, InOrder, above, is_live, live, live_upto, row_by, rows_within, last_seq, page_end, Kept}
use Rattle.couch_base.proofs.Rows.{among_get, order_above}

-- ---- filters

-- two filters commute
pub filter_swap : {X : Type 0} (p q : X → Bool) (xs : List X) → filter p (filter q xs) ≡ filter q (filter p xs)
filter_swap p q [] = refl
filter_swap p q (x ∷ xs) =
    let rest = filter_swap p q xs in
    elim (cases_Bool (p x)) [
      | inl hit ↦ elim (cases_Bool (q x)) [
        | inl also ↦ simp (hit, also) (ap (λ l. x ∷ l) rest)
        | inr other ↦ simp (hit, other) rest
      ]
      | inr miss ↦ elim (cases_Bool (q x)) [
        | inl also ↦ simp (miss, also) rest
        | inr other ↦ simp (miss, other) rest
      ]
    ]

filter_fewer : {X : Type 0} (p : X → Bool) (xs : List X) → length (filter p xs) ≤ length xs
filter_fewer p [] = omega arith
filter_fewer p (x ∷ xs) =
    let rest : length (filter p xs) ≤ length xs = filter_fewer p xs in
    cond_both (p x) (x ∷ filter p xs) (filter p xs) (λ l. length l ≤ length (x ∷ xs))
    (λ _. omega (arith, rest))
    (λ _. omega (arith, rest))

-- a filter that drops nothing changes nothing
filter_full : {X : Type 0} (p : X → Bool) (xs : List X) → length xs ≤ length (filter p xs) → filter p xs ≡ xs
filter_full p [] all = refl
filter_full p (x ∷ xs) all =
    cond_both (p x) (x ∷ filter p xs) (filter p xs) (λ l. length (x ∷ xs) ≤ length l → l ≡ x ∷ xs)
    (λ _ h. ap (λ l. x ∷ l) (filter_full p xs (omega (arith, h))))
    (λ _ h. let few : length (filter p xs) ≤ length xs = filter_fewer p xs in absurd (omega (arith, h, few)))
    all

-- ---- rows at or below a sequence

-- the index rows at or below a sequence
abbrev pub upto : ℕ → List (ℕ × ℕ) → List (ℕ × ℕ)
upto b rows = filter (λ e. nat_le e.0 b) rows

none_upto : (b : ℕ) (rows : List (ℕ × ℕ)) → AllWithin (λ e. nat_le e.0 b ≡ false) rows 0 (length rows) → upto b rows ≡ []
none_upto b [] h = refl
none_upto b (e ∷ rows) h =
    ap (λ t. cond t (e ∷ upto b rows) (upto b rows)) (h 0 e (omega arith) (omega arith))
    ∙ none_upto b rows (λ k d low high. h (suc k) d (omega arith) (omega (arith, high)))

-- the rows at or below a sequence are the rows before the partition point
pub upto_from : (b : ℕ) (rows : List (ℕ × ℕ)) (i : ℕ) → IsPartitionPoint (λ e. nat_le e.0 b ≡ true) (λ e. nat_le e.0 b ≡ false) rows i → upto b rows ≡ take i rows
upto_from b [] zero h = refl
upto_from b [] (suc i) h = refl
upto_from b (e ∷ rows) zero h = none_upto b (e ∷ rows) h.1
upto_from b (e ∷ rows) (suc i) h =
    ap (λ t. cond t (e ∷ upto b rows) (upto b rows)) (h.0 0 e (omega arith) (omega arith))
    ∙ ap (λ l. e ∷ l) (upto_from b rows i (
      λ k d low high. h.0 (suc k) d (omega arith) (omega (arith, high)),
      λ k d low high. h.1 (suc k) d (omega (arith, low)) (omega (arith, high)),
    ))

none_above : (b : ℕ) (rows : List (ℕ × ℕ)) → ((x : ℕ × ℕ) → Among x rows → b < x.0) → upto b rows ≡ []
none_above b [] h = refl
none_above b (e ∷ rows) h =
    let high : b < e.0 = h e (inl refl) in
    let miss : nat_le e.0 b ≡ false = grind (arith, high) in
    ap (λ t. cond t (e ∷ upto b rows) (upto b rows)) miss ∙ none_above b rows (λ x m. h x (inr m))

-- the rows up to the sequence of a row are this row and the rows before it
upto_row : (rows : List (ℕ × ℕ)) (n : ℕ) (d : ℕ × ℕ) → InOrder rows → n < length rows → upto (get_or rows n d).0 rows ≡ take (suc n) rows
upto_row [] n d o within = absurd (omega (arith, within))
upto_row (e ∷ rows) zero d o within =
    let hit : nat_le e.0 e.0 ≡ true = grind arith in
    ap (λ t. cond t (e ∷ upto e.0 rows) (upto e.0 rows)) hit ∙ ap (λ l. e ∷ l) (none_above e.0 rows o.0)
upto_row (e ∷ rows) (suc n) d o within =
    let b = (get_or rows n d).0 in
    let under : e.0 < b = o.0 (get_or rows n d) (among_get rows n d (omega (arith, within))) in
    let hit : nat_le e.0 b ≡ true = grind (arith, under) in
    ap (λ t. cond t (e ∷ upto b rows) (upto b rows)) hit ∙ ap (λ l. e ∷ l) (upto_row rows n d o.1 (omega (arith, within)))

-- ---- fewer rows than the limit

-- a page of fewer index rows than the limit ends at the goal
pub page_few : (t : TableValue) (since goal limit due : ℕ) → upto goal (above since t.rows) ≡ take due (above since t.rows) → due < limit
    → (take limit (rows_within t since goal) ≡ rows_within t since goal) × (goal ≡ page_end since goal limit (take limit (rows_within t since goal)))
page_few t since goal limit due is few =
    let rows = above since t.rows in
    let all = rows_within t since goal in
    let mapped : length all ≡ length (live_upto t.entries goal rows) = length-map (live_upto t.entries goal rows) (row_by t.entries) in
    let swapped : length (live_upto t.entries goal rows) ≡ length (live t.entries (upto goal rows)) = ap length (filter_swap (λ (e : ℕ × ℕ). nat_le e.0 goal) (is_live t.entries) rows) in
    let fewer : length (live t.entries (upto goal rows)) ≤ length (upto goal rows) = filter_fewer (is_live t.entries) (upto goal rows) in
    let size : length (upto goal rows) ≡ min due (length rows) = ap length is ∙ length-take due rows in
    let bound : length all < limit = omega (arith, mapped, swapped, fewer, size, few) in
    let same : take limit all ≡ all = take_all limit all (omega (arith, bound)) in
    let less : (length all == limit) ≡ false = grind (arith, bound) in (
      same,
      sym (ap (page_end since goal limit) same ∙ ap (λ b. cond b (last_seq since all) goal) less),
    )

-- ---- an index whose rows are live

-- the last of the first rows
last_taken : (docs : List (Id × Kept)) (lo : ℕ) (rows : List (ℕ × ℕ)) (n : ℕ) (d : ℕ × ℕ) → n < length rows → last_seq lo (map (row_by docs) (take (suc n) rows)) ≡ (get_or rows n d).0
last_taken docs lo [] n d within = absurd (omega (arith, within))
last_taken docs lo (e ∷ rows) zero d within = refl
last_taken docs lo (e ∷ rows) (suc n) d within = last_taken docs e.0 rows n d (omega (arith, within))

-- if all rows of the index are live, the feed's rows are the index's rows
all_rows : (t : TableValue) (since b : ℕ) → live t.entries t.rows ≡ t.rows → rows_within t since b ≡ map (row_by t.entries) (upto b (above since t.rows))
all_rows t since b alive =
    ap (λ l. map (row_by t.entries) (upto b l)) (filter_swap (is_live t.entries) (λ (e : ℕ × ℕ). nat_lt since e.0) t.rows ∙ ap (above since) alive)

-- if all rows of the index are live, a page with enough rows ends at the row of the limit
pub page_full : (t : TableValue) (since goal n due : ℕ) (d : ℕ × ℕ) → InOrder t.rows → nat_lt (length (live t.entries t.rows)) (length t.rows) ≡ false
    → upto goal (above since t.rows) ≡ take due (above since t.rows) → suc n ≤ due → due ≤ length (above since t.rows)
    → (take (suc n) (rows_within t since goal) ≡ rows_within t since (get_or (above since t.rows) n d).0)
    × ((get_or (above since t.rows) n d).0 ≡ page_end since goal (suc n) (take (suc n) (rows_within t since goal)))
page_full t since goal n due d order dead is enough within =
    let rows = above since t.rows in
    let docs = t.entries in
    let last = (get_or rows n d).0 in
    let alive : live docs t.rows ≡ t.rows = filter_full (is_live docs) t.rows (grind (arith, dead)) in
    let first : take (suc n) (rows_within t since goal) ≡ map (row_by docs) (take (suc n) rows) =
    ap (take (suc n)) (all_rows t since goal alive ∙ ap (map (row_by docs)) is) ∙ take-map (row_by docs) (suc n) (take due rows) ∙ ap (map (row_by docs)) (take-take (suc n) due rows enough) in
    let mapped : length (map (row_by docs) (take (suc n) rows)) ≡ length (take (suc n) rows) = length-map (take (suc n) rows) (row_by docs) in
    let size : length (take (suc n) rows) ≡ min (suc n) (length rows) = length-take (suc n) rows in
    let full : (length (map (row_by docs) (take (suc n) rows)) == suc n) ≡ true = grind (arith, mapped, size, enough, within) in (
      first ∙ sym (all_rows t since last alive ∙ ap (map (row_by docs)) (upto_row rows n d (order_above since t.rows order) (omega (arith, enough, within)))),
      sym (
          ap (page_end since goal (suc n)) first
          ∙ ap (λ b. cond b (last_seq since (map (row_by docs) (take (suc n) rows))) goal) full
          ∙ last_taken docs since rows n d (omega (arith, enough, within))
          ),
    )
