-- Looking up the rows of selected documents.
use Rattle.proof_prelude.proofs.{◌≡◌, ◌⊎◌, ℕ, ◌<◌, ◌≤◌, List, [], ◌∷◌, ◌++◌, Some, Bool, true, false, cond, filter, map, sym, ap, subst, ◌∙◌, refl, arith, inl, inr, ◌==◌, ◌&&◌, ◌||◌, nat_lt, list_any, list_any-append, keys_of, IsStrictlySortedBy, IsStrictlySortedBy-dedup, IsTotalOrder, eq_by_cmp, is_lt, nat_cmp_total, on_total, then_total, unsigned_ties, bytes_eq, cases_Bool, cond_both, and_from, and_parts, or_cases, or_left, false≢true, cases_order, eqb-true, ltb-true, leb-true, lt-ltb, le-leb, nat_cmp, ordering_then}
use Rattle.std.specs.Cmp.{both_tied}
use Rattle.std.specs.List.{dedup, dedup_from}
use Rattle.std.specs.List.Sorted.{IsSorted}
use Rattle.std.specs.declared.cmp.Ordering.{Ordering}
use Rattle.std.specs.declared.cmp.Ordering.TheVariants.{Less, Equal, Greater}
use Rattle.couch_base.specs.{Among, Among-last, Among-left, Among-push, any_from, any_left, any_member, each_member, id_is, id_same, Id, TableValue, InOrder, above, chosen_rows, id_at, is_live, live, live_upto, row_by, rows_within, Kept}
use Rattle.couch_base.specs.ListLaws.{any_right}
use Rattle.couch_base.proofs.Rising.{among_filter}
use Rattle.couch_base.proofs.Rows.{order_filter}
use Rattle.couch_base.proofs.LiveRows.{among_kept}

-- ---- lists of index rows

-- two lists of rows in order are equal if they have the same rows
pub same_rows : (xs ys : List (ℕ × ℕ)) → InOrder xs → InOrder ys → ((e : ℕ × ℕ) → Among e xs → Among e ys) → ((e : ℕ × ℕ) → Among e ys → Among e xs) → xs ≡ ys
same_rows [] [] o p there back = refl
same_rows [] (y ∷ ys) o p there back = absurd (back y (inl refl))
same_rows (x ∷ xs) [] o p there back = absurd (there x (inl refl))
same_rows (x ∷ xs) (y ∷ ys) o p there back =
    λ i. first i ∷ same_rows xs ys o.1 p.1 rest rest_back i
  where
    first : x ≡ y
    first =
        elim (there x (inl refl)) [
          | inl same ↦ same
          | inr m ↦ elim (back y (inl refl)) [
            | inl same ↦ sym same
            | inr n ↦ let a : y.0 < x.0 = p.0 x m in let b : x.0 < y.0 = o.0 y n in absurd (omega (arith, a, b))
          ]
        ]

    seqs : x.0 ≡ y.0
    seqs = ap (λ (e : ℕ × ℕ). e.0) first

    rest : (e : ℕ × ℕ) → Among e xs → Among e ys
    rest e m =
        elim (there e (inr m)) [
          | inl same ↦ let a : x.0 < e.0 = o.0 e m in let b : e.0 ≡ y.0 = ap (λ (e : ℕ × ℕ). e.0) same in absurd (omega (arith, a, b, seqs))
          | inr n ↦ n
        ]

    rest_back : (e : ℕ × ℕ) → Among e ys → Among e xs
    rest_back e m =
        elim (back e (inr m)) [
          | inl same ↦ let a : y.0 < e.0 = p.0 e m in let b : e.0 ≡ x.0 = ap (λ (e : ℕ × ℕ). e.0) same in absurd (omega (arith, a, b, seqs))
          | inr n ↦ n
        ]

-- a sequence has at most one row
pub one_at : (rows : List (ℕ × ℕ)) (x y : ℕ × ℕ) → InOrder rows → Among x rows → Among y rows → x.0 ≡ y.0 → x ≡ y
one_at [] x y o m n same = absurd m
one_at (e ∷ rows) x y o (inl a) (inl b) same = a ∙ sym b
one_at (e ∷ rows) x y o (inl a) (inr n) same = let s : x.0 ≡ e.0 = ap (λ (e : ℕ × ℕ). e.0) a in let l : e.0 < y.0 = o.0 y n in absurd (omega (arith, s, l, same))
one_at (e ∷ rows) x y o (inr m) (inl b) same = let s : y.0 ≡ e.0 = ap (λ (e : ℕ × ℕ). e.0) b in let l : e.0 < x.0 = o.0 x m in absurd (omega (arith, s, l, same))
one_at (e ∷ rows) x y o (inr m) (inr n) same = one_at rows x y o.1 m n same

-- ---- rows that are sorted, without duplicates

-- the order and the equality of index rows
abbrev pub row_cmp : ℕ × ℕ → ℕ × ℕ → Ordering
row_cmp x y = ordering_then (nat_cmp x.0 y.0) (nat_cmp x.1 y.1)

abbrev pub row_eq : ℕ × ℕ → ℕ × ℕ → Bool
row_eq x y = (x.0 == y.0) && (x.1 == y.1)

row_is : (x y : ℕ × ℕ) → row_eq x y ≡ true → x ≡ y
row_is x y h = let parts = and_parts _ _ h in λ i. (eqb-true x.0 y.0 parts.0 i, eqb-true x.1 y.1 parts.1 i)

row_same : (x : ℕ × ℕ) → row_eq x x ≡ true
row_same x = and_from (x.0 == x.0) (x.1 == x.1) (grind arith) (grind arith)

absorb : (b c : Bool) → (b || (b || c)) ≡ (b || c)
absorb true c = refl
absorb false c = refl

any_from_first : (p : ℕ × ℕ → Bool) (k : ℕ × ℕ) (xs : List (ℕ × ℕ)) → list_any p (dedup_from row_eq k xs) ≡ (p k || list_any p xs)
any_from_first p k [] = refl
any_from_first p k (x ∷ xs) =
    cond_both (row_eq x k) (dedup_from row_eq k xs) (k ∷ dedup_from row_eq x xs) (λ l. list_any p l ≡ (p k || (p x || list_any p xs)))
    (λ hit. any_from_first p k xs ∙ sym (ap (λ b. p k || (b || list_any p xs)) (ap p (row_is x k hit)) ∙ absorb (p k) (list_any p xs)))
    (λ _. ap (λ b. p k || b) (any_from_first p x xs))

any_dedup : (p : ℕ × ℕ → Bool) (xs : List (ℕ × ℕ)) → list_any p (dedup row_eq xs) ≡ list_any p xs
any_dedup p [] = refl
any_dedup p (x ∷ xs) = any_from_first p x xs

-- lists with the same tests have the same rows
pub among_tested : (xs ys : List (ℕ × ℕ)) → ((p : ℕ × ℕ → Bool) → list_any p xs ≡ list_any p ys) → (e : ℕ × ℕ) → Among e xs → Among e ys
among_tested xs ys same e m =
    let w = any_member (row_eq e) ys (sym (same (row_eq e)) ∙ any_from (row_eq e) e xs m (row_same e)) in
    subst (λ (x : ℕ × ℕ). Among x ys) (sym (row_is e w.0 w.2)) w.1

self_cmp : (a : ℕ) → nat_cmp a a ≡ Equal
self_cmp a =
    let under : nat_lt a a ≡ false = grind arith in
    let same : (a == a) ≡ true = grind arith in
    ap (λ b. cond b Less (cond (a == a) Equal Greater)) under ∙ ap (λ b. cond b Equal Greater) same

never_less : (x : ℕ × ℕ) → row_cmp x x ≡ Less → ⊥
never_less x less = false≢true (ap is_lt (sym (λ i. ordering_then (self_cmp x.0 i) (self_cmp x.1 i)) ∙ less))

never_more : (a b : ℕ) (o : Ordering) → b < a → ordering_then (nat_cmp a b) o ≡ Less → ⊥
never_more a b o over less =
    let under : nat_lt a b ≡ false = grind (arith, over) in
    let same : (a == b) ≡ false = grind (arith, over) in
    let more : nat_cmp a b ≡ Greater = ap (λ t. cond t Less (cond (a == b) Equal Greater)) under ∙ ap (λ t. cond t Equal Greater) same in
    false≢true (ap is_lt (sym (ap (λ r. ordering_then r o) more) ∙ less))

row_total : IsTotalOrder row_cmp
row_total = then_total (on_total (λ (e : ℕ × ℕ). e.0) nat_cmp_total) (on_total (λ (e : ℕ × ℕ). e.1) nat_cmp_total)

row_ties : (x y : ℕ × ℕ) → row_eq x y ≡ eq_by_cmp row_cmp x y
row_ties x y = both_tied (x.0 == y.0) (x.1 == y.1) (nat_cmp x.0 y.0) (nat_cmp x.1 y.1) (unsigned_ties x.0 y.0) (unsigned_ties x.1 y.1)

-- live rows that are sorted strictly have rising sequences
order_sorted : (all xs : List (ℕ × ℕ)) → InOrder all → ((e : ℕ × ℕ) → Among e xs → Among e all) → IsStrictlySortedBy row_cmp xs → InOrder xs
unfolding IsStrictlySortedBy
order_sorted all [] o within sorted = tt
order_sorted all (x ∷ xs) o within sorted = (
  λ y m. above_first y m (each_member (λ y. row_cmp x y ≡ Less) y xs sorted.0 m),
  order_sorted all xs o (λ e m. within e (inr m)) sorted.1,
)
  where
    above_first : (y : ℕ × ℕ) → Among y xs → row_cmp x y ≡ Less → x.0 < y.0
    above_first y m less =
        elim (cases_order x.0 y.0) [
          | inl same ↦
              let equal = one_at all x y o (within x (inl refl)) (within y (inr m)) same in
              absurd (never_less y (subst (λ (z : ℕ × ℕ). row_cmp z y ≡ Less) equal less))
          | inr apart ↦ elim apart [
            | inl under ↦ under
            | inr over ↦ absurd (never_more x.0 y.0 (nat_cmp x.1 y.1) over less)
          ]
        ]

-- ---- the rows of selected documents

-- whether a row is a live row of a selected document within bounds
pub record IsWanted (t : TableValue) (since last : ℕ) (ids : List Id) (e : ℕ × ℕ) : Type 0 where
  pub alive : Among e (live t.entries t.rows)
  pub above : since < e.0
  pub upto : e.0 ≤ last
  pub named : list_any (bytes_eq (id_at (keys_of t.entries) e.1)) ids ≡ true

-- the rows are exactly the rows of the selected documents
pub record AreWanted (t : TableValue) (since last : ℕ) (ids : List Id) (rows : List (ℕ × ℕ)) : Type 0 where
  pub sound : (e : ℕ × ℕ) → Among e rows → IsWanted t since last ids e
  pub complete : (e : ℕ × ℕ) → IsWanted t since last ids e → Among e rows

pub wanted_none : (t : TableValue) (since last : ℕ) → AreWanted t since last [] []
wanted_none t since last = record {
  sound = λ e m. absurd m;
  complete = λ e w. absurd (false≢true w.named);
}

wanted_more : (t : TableValue) (since last : ℕ) (ids : List Id) (id : Id) (e : ℕ × ℕ) → IsWanted t since last ids e → IsWanted t since last (ids ++ id ∷ []) e
wanted_more t since last ids id e w = record {
  alive = w.alive;
  above = w.above;
  upto = w.upto;
  named = any_left (bytes_eq (id_at (keys_of t.entries) e.1)) ids (id ∷ []) w.named;
}

-- a row of one more selected document is a row of the earlier ones, or this document's
wanted_cases : (t : TableValue) (since last : ℕ) (ids : List Id) (id : Id) (e : ℕ × ℕ) → IsWanted t since last (ids ++ id ∷ []) e → IsWanted t since last ids e ⊎ (id_at (keys_of t.entries) e.1 ≡ id)
wanted_cases t since last ids id e w =
    let key = id_at (keys_of t.entries) e.1 in
    elim (or_cases (list_any (bytes_eq key) ids) (list_any (bytes_eq key) (id ∷ [])) (sym (list_any-append (bytes_eq key) ids (id ∷ [])) ∙ w.named)) [
      | inl early ↦ inl (record { alive = w.alive; above = w.above; upto = w.upto; named = early })
      | inr late ↦ elim (or_cases (bytes_eq key id) false late) [
        | inl hit ↦ inr (id_is key id hit)
        | inr miss ↦ absurd (false≢true miss)
      ]
    ]

-- a document without a row within the bounds adds none
pub wanted_same : (t : TableValue) (since last : ℕ) (ids : List Id) (id : Id) (rows : List (ℕ × ℕ)) → AreWanted t since last ids rows
    → ((e : ℕ × ℕ) → Among e (live t.entries t.rows) → id_at (keys_of t.entries) e.1 ≡ id → since < e.0 → e.0 ≤ last → ⊥)
    → AreWanted t since last (ids ++ id ∷ []) rows
wanted_same t since last ids id rows so_far out = record {
  sound = λ e m. wanted_more t since last ids id e (so_far.sound e m);
  complete = λ e w. elim (wanted_cases t since last ids id e w) [
    | inl early ↦ so_far.complete e early
    | inr its ↦ absurd (out e w.alive its w.above w.upto)
  ];
}

-- a document with a row within the bounds adds its row
pub wanted_next : (t : TableValue) (since last : ℕ) (ids : List Id) (id : Id) (rows : List (ℕ × ℕ)) (row : ℕ × ℕ) → AreWanted t since last ids rows
    → Among row (live t.entries t.rows) → id_at (keys_of t.entries) row.1 ≡ id → since < row.0 → row.0 ≤ last
    → ((e : ℕ × ℕ) → Among e (live t.entries t.rows) → id_at (keys_of t.entries) e.1 ≡ id → row ≡ e)
    → AreWanted t since last (ids ++ id ∷ []) (rows ++ row ∷ [])
wanted_next t since last ids id rows row so_far alive its above upto only = record {
  sound = λ e m. elim (Among-push e rows row m) [
    | inl early ↦ wanted_more t since last ids id e (so_far.sound e early)
    | inr same ↦ subst (IsWanted t since last (ids ++ id ∷ [])) (sym same) (record {
      alive = alive;
      above = above;
      upto = upto;
      named = any_right (bytes_eq (id_at (keys_of t.entries) row.1)) ids (id ∷ []) (or_left _ _ (ap (λ q. bytes_eq q id) its ∙ id_same id));
    })
  ];
  complete = λ e w. elim (wanted_cases t since last ids id e w) [
    | inl early ↦ Among-left e rows (row ∷ []) (so_far.complete e early)
    | inr named_so ↦ subst (λ (x : ℕ × ℕ). Among x (rows ++ row ∷ [])) (only e w.alive named_so) (Among-last row rows)
  ];
}

-- the live rows of an index that belong to selected documents and are within bounds
abbrev pub wanted_rows : TableValue → ℕ → ℕ → List Id → List (ℕ × ℕ)
wanted_rows t since last ids = filter (λ e. list_any (bytes_eq (id_at (keys_of t.entries) e.1)) ids) (live_upto t.entries last (above since t.rows))

is_wanted : (t : TableValue) (since last : ℕ) (ids : List Id) (e : ℕ × ℕ) → Among e (wanted_rows t since last ids) → IsWanted t since last ids e
is_wanted t since last ids e m =
    let a = among_filter _ (live_upto t.entries last (above since t.rows)) e m in
    let b = among_filter _ (live t.entries (above since t.rows)) e a.0 in
    let c = among_filter _ (above since t.rows) e b.0 in
    let d = among_filter _ t.rows e c.0 in
    record {
      alive = among_kept (is_live t.entries) t.rows e d.0 c.1;
      above = ltb-true since e.0 d.1;
      upto = leb-true e.0 last b.1;
      named = a.1;
    }

among_wanted : (t : TableValue) (since last : ℕ) (ids : List Id) (e : ℕ × ℕ) → IsWanted t since last ids e → Among e (wanted_rows t since last ids)
among_wanted t since last ids e w =
    let d = among_filter (is_live t.entries) t.rows e w.alive in
    among_kept _ (live_upto t.entries last (above since t.rows)) e
    (among_kept _ (live t.entries (above since t.rows)) e
    (among_kept _ (above since t.rows) e (among_kept _ t.rows e d.0 (lt-ltb since e.0 w.above)) d.1)
    (le-leb e.0 last w.upto))
    w.named

-- sorted rows without duplicates are the index rows of the selected documents
pub wanted_sorted : (t : TableValue) (since last : ℕ) (ids : List Id) (rows sorted : List (ℕ × ℕ)) → InOrder t.rows → AreWanted t since last ids rows
    → ((p : ℕ × ℕ → Bool) → list_any p rows ≡ list_any p sorted) → IsSorted row_cmp sorted → dedup row_eq sorted ≡ wanted_rows t since last ids
wanted_sorted t since last ids rows sorted order are same up =
    let tests : (p : ℕ × ℕ → Bool) → list_any p rows ≡ list_any p (dedup row_eq sorted) = λ p. same p ∙ sym (any_dedup p sorted) in
    let there : (e : ℕ × ℕ) → Among e (dedup row_eq sorted) → IsWanted t since last ids e = λ e m. are.sound e (among_tested (dedup row_eq sorted) rows (λ p. sym (tests p)) e m) in
    let alive : (e : ℕ × ℕ) → Among e (dedup row_eq sorted) → Among e t.rows = λ e m. (among_filter (is_live t.entries) t.rows e (there e m).alive).0 in
    let strict : IsStrictlySortedBy row_cmp (dedup row_eq sorted) = IsStrictlySortedBy-dedup row_total row_ties sorted up in
    same_rows (dedup row_eq sorted) (wanted_rows t since last ids) (order_sorted t.rows (dedup row_eq sorted) order alive strict)
    (order_filter _ _ (order_filter _ _ (order_filter _ _ (order_filter _ t.rows order))))
    (λ e m. among_wanted t since last ids e (there e m))
    (λ e m. among_tested rows (dedup row_eq sorted) tests e (are.complete e (is_wanted t since last ids e m)))

-- ---- the feed rows of selected documents

filter_keeps : (p : ℕ × ℕ → Bool) (xs : List (ℕ × ℕ)) → ((x : ℕ × ℕ) → Among x xs → p x ≡ true) → filter p xs ≡ xs
filter_keeps p [] all = refl
filter_keeps p (x ∷ xs) all =
    ap (λ b. cond b (x ∷ filter p xs) (filter p xs)) (all x (inl refl)) ∙ ap (λ l. x ∷ l) (filter_keeps p xs (λ y m. all y (inr m)))

chosen_map : (docs : List (Id × Kept)) (ids : List Id) (xs : List (ℕ × ℕ)) → map (row_by docs) (filter (λ e. list_any (bytes_eq (id_at (keys_of docs) e.1)) ids) xs) ≡ chosen_rows (Some ids) (map (row_by docs) xs)
chosen_map docs ids [] = refl
chosen_map docs ids (x ∷ xs) =
    elim (cases_Bool (list_any (bytes_eq (id_at (keys_of docs) x.1)) ids)) [
      | inl hit ↦ simp hit (ap (λ l. row_by docs x ∷ l) (chosen_map docs ids xs))
      | inr miss ↦ simp miss (chosen_map docs ids xs)
    ]

-- the feed rows of the index rows of the selected documents are the selected rows of the feed
pub wanted_feed : (t : TableValue) (since last : ℕ) (ids : List Id) → map (row_by t.entries) (live t.entries (wanted_rows t since last ids)) ≡ chosen_rows (Some ids) (rows_within t since last)
wanted_feed t since last ids =
    ap (map (row_by t.entries)) (filter_keeps (is_live t.entries) (wanted_rows t since last ids) (λ e m. (among_filter (is_live t.entries) t.rows e (is_wanted t since last ids e m).alive).1))
    ∙ chosen_map t.entries ids (live_upto t.entries last (above since t.rows))
