-- The live rows of an index: one for each document.
use Rattle.proof_prelude.proofs.{◌≡◌, ℕ, zero, suc, ◌+◌, ◌<◌, ◌≤◌, List, [], ◌∷◌, Option, Some, None, Bool, true, false, eqb, cond, filter, map, length, sym, ap, subst, ◌∙◌, refl, arith, inl, inr, ◌==◌, slice_get, IsDistinct, list_any, keys_of, option_map_or, cases_Bool, cond_both, both_ways, false≢true, nat_cmp, is_at, bytes_eq, nat_list_eq_equiv, lookup_from_place, length-map, eqb-true, same_Some, none-some, slice_get_within}
use Rattle.std.proofs.lemmas.Map.Steps.{le-length_from_below}
use Rattle.couch_base.specs.{id_same, Among, Among-mapped, any_from, Id, TableValue, at_seq, found, id_at, is_live, live, named, IsKept, Kept}
use Rattle.couch_base.proofs.Found.{seq_is}
use Rattle.couch_base.proofs.Rising.{among_filter}
use Rattle.couch_base.proofs.Rows.{few_live}
use Rattle.couch_base.proofs.Naming.{apart_at, id_is_at}

-- an element that passes a filter is in the filtered list
pub among_kept : {X : Type 0} (p : X → Bool) (xs : List X) (x : X) → Among x xs → p x ≡ true → Among x (filter p xs)
among_kept p [] x m hit = absurd m
among_kept p (y ∷ ys) x (inl same) hit =
    subst (λ b. Among x (cond b (y ∷ filter p ys) (filter p ys))) (sym (sym (ap p same) ∙ hit)) (inl same)
among_kept p (y ∷ ys) x (inr m) hit =
    cond_both (p y) (y ∷ filter p ys) (filter p ys) (λ l. Among x l)
    (λ _. inr (among_kept p ys x m hit))
    (λ _. among_kept p ys x m hit)

-- a list has an element at each position
some_at : (docs : List (Id × Kept)) (i : ℕ) → i < length docs → (d : Id × Kept) × (slice_get docs i ≡ Some d)
some_at [] i within = absurd (omega (arith, within))
some_at (d ∷ docs) zero within = (d, refl)
some_at (d ∷ docs) (suc i) within = some_at docs i (omega (arith, within))

-- the row of an index at a sequence
at_row : (ids : List Id) (rows : List (ℕ × ℕ)) (s : ℕ) (id : Id) → at_seq s (named ids rows) ≡ Some id → (e : ℕ × ℕ) × Among e rows × (s ≡ e.0) × (id_at ids e.1 ≡ id)
at_row ids [] s id at = absurd (none-some id at)
at_row ids (e ∷ rows) s id at =
    elim (cases_Bool (is_at (nat_cmp s) e.0)) [
      | inl hit ↦ (e, inl refl, seq_is s e.0 hit, same_Some (id_at ids e.1) id (sym (ap (λ b. cond b (Some (id_at ids e.1)) (at_seq s (named ids rows))) hit) ∙ at))
      | inr miss ↦
          let w = at_row ids rows s id (sym (ap (λ b. cond b (Some (id_at ids e.1)) (at_seq s (named ids rows))) miss) ∙ at) in
          (w.0, inr w.1, w.2, w.3)
    ]

-- a position with a document's id is the document's position
one_place : (docs : List (Id × Kept)) (place i : ℕ) (id : Id) (k : Kept) → IsDistinct bytes_eq (keys_of docs) → slice_get docs place ≡ Some (id, k) → i < length docs → id_at (keys_of docs) i ≡ id → place ≡ i
one_place docs place i id k once at within named_so =
    elim (cases_Bool (place == i)) [
      | inl hit ↦ eqb-true place i hit
      | inr miss ↦
          let apart : bytes_eq (id_at (keys_of docs) i) id ≡ false = apart_at docs place i id k once at within (λ same. both_ways (place == i) miss (grind (arith, same))) in
          absurd (both_ways _ apart (ap (λ q. bytes_eq q id) named_so ∙ id_same id))
    ]

-- a document's live row has its sequence and its position
pub has_row : (t : TableValue) → IsKept t → IsDistinct bytes_eq (keys_of t.entries) → (place : ℕ) (id : Id) (k : Kept) → slice_get t.entries place ≡ Some (id, k) → Among (k.seq, place) (live t.entries t.rows)
has_row t kept once place id k at =
    let here : found t.entries id ≡ Some k = lookup_from_place nat_list_eq_equiv t.entries place id k once at in
    let w = at_row (keys_of t.entries) (live t.entries t.rows) k.seq id (kept.table.indexed id k here) in
    let within : w.0.1 < length t.entries = kept.rows.places w.0 (among_filter (is_live t.entries) t.rows w.0 w.1).0 in
    let same : place ≡ w.0.1 = one_place t.entries place w.0.1 id k once at within w.3 in
    subst (λ (e : ℕ × ℕ). Among e (live t.entries t.rows)) (λ i. (sym w.2 i, sym same i)) w.1

-- the document of a live row
pub live_document : (t : TableValue) → IsKept t → (e : ℕ × ℕ) → Among e (live t.entries t.rows) → (d : Id × Kept) × (slice_get t.entries e.1 ≡ Some d) × (d.1.seq ≡ e.0) × (id_at (keys_of t.entries) e.1 ≡ d.0)
live_document t kept e m =
    let alive = (among_filter (is_live t.entries) t.rows e m).1 in
    go (slice_get t.entries e.1) refl alive
  where
    go : (o : Option (Id × Kept)) → slice_get t.entries e.1 ≡ o → is_live t.entries e ≡ true → (d : Id × Kept) × (slice_get t.entries e.1 ≡ Some d) × (d.1.seq ≡ e.0) × (id_at (keys_of t.entries) e.1 ≡ d.0)
    go None is alive = absurd (false≢true (sym (ap (λ o. option_map_or (λ (d : Id × Kept). d.1.seq == e.0) o false) is) ∙ alive))
    go (Some d) is alive = (
      d,
      is,
      eqb-true d.1.seq e.0 (sym (ap (λ o. option_map_or (λ (d : Id × Kept). d.1.seq == e.0) o false) is) ∙ alive),
      id_is_at t.entries e.1 d.0 d.1 is,
    )

-- a live row with a document's id is the document's row
pub only_row : (t : TableValue) → IsKept t → IsDistinct bytes_eq (keys_of t.entries) → (place : ℕ) (id : Id) (k : Kept) → slice_get t.entries place ≡ Some (id, k)
    → (e : ℕ × ℕ) → Among e (live t.entries t.rows) → id_at (keys_of t.entries) e.1 ≡ id → (k.seq, place) ≡ e
only_row t kept once place id k at e m named_so =
    let d = live_document t kept e m in
    let same : place ≡ e.1 = one_place t.entries place e.1 id k once at (slice_get_within t.entries e.1 d.0 d.1) named_so in
    let its : (id, k) ≡ d.0 = same_Some (id, k) d.0 (sym at ∙ ap (slice_get t.entries) same ∙ d.1) in
    λ i. ((ap (λ (x : Id × Kept). x.1.seq) its ∙ d.2) i, same i)

-- an id that is not found has no live row
pub no_row : (t : TableValue) → IsKept t → IsDistinct bytes_eq (keys_of t.entries) → (id : Id) → found t.entries id ≡ None → (e : ℕ × ℕ) → Among e (live t.entries t.rows) → id_at (keys_of t.entries) e.1 ≡ id → ⊥
no_row t kept once id gone e m named_so =
    let d = live_document t kept e m in
    let there = lookup_from_place nat_list_eq_equiv t.entries e.1 d.0.0 d.0.1 once d.1 in
    none-some d.0.1 (sym gone ∙ ap (found t.entries) (sym named_so ∙ d.3) ∙ there)

-- there are as many live rows as documents
pub live_count : (t : TableValue) → IsKept t → IsDistinct bytes_eq (keys_of t.entries) → length t.entries ≡ length (live t.entries t.rows)
live_count t kept once =
    let rows = live t.entries t.rows in
    let size : length (map (λ (x : ℕ × ℕ). x.1) rows) ≡ length rows = length-map rows (λ (x : ℕ × ℕ). x.1) in
    let few : length rows ≤ length t.entries = few_live t.entries (t.last + 1) t.rows kept.rows in
    let many : length t.entries ≤ length (map (λ (x : ℕ × ℕ). x.1) rows) = le-length_from_below (map (λ (x : ℕ × ℕ). x.1) rows) (length t.entries) each in
    omega (arith, size, few, many)
  where
    each : (q : ℕ) → q < length t.entries → list_any (eqb q) (map (λ (x : ℕ × ℕ). x.1) (live t.entries t.rows)) ≡ true
    each q within =
        let d = some_at t.entries q within in
        any_from (eqb q) q (map (λ (x : ℕ × ℕ). x.1) (live t.entries t.rows)) (Among-mapped (λ (x : ℕ × ℕ). x.1) (d.0.1.seq, q) (live t.entries t.rows) (has_row t kept once q d.0.0 d.0.1 d.1)) (grind arith)
