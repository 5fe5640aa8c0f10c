-- The index, with ids instead of positions.
use Rattle.proof_prelude.proofs.{◌≡◌, ℕ, zero, suc, ◌<◌, ◌≤◌, List, [], ◌∷◌, ◌++◌, Bool, true, false, Some, None, length, cond, sym, ap, subst, ◌∙◌, refl, arith, inl, inr, ◌==◌, nat_lt, not, slice_get, unwrap_or, position, get_or, IsDistinct, option_map, keys_of, bytes_eq, cond_both, cases_Bool, both_ways, false_from_ne_true, get_or_append_left, filter-append, position-Some, nat_list_eq_equiv, length-keys_of, lookup_from_place, apart_from_distinct, slice_get-map, slice_get_within, unwrap_or-slice_get, get_or_from_slice_get, same_Some, none-some}
use Rattle.std.specs.List.{insert}
use Rattle.std.proofs.lemmas.Map.{lookup-insert, none_passes_from_lookup}
use Rattle.rev_tree.proofs.{slice_get-last}
use Rattle.indexmap.specs.IndexMap.{insert_entry, set_value_at}
use Rattle.indexmap.proofs.MapLemmas.{absent_from_lookup, insert_entry-absent}
use Rattle.couch_base.specs.{id_is, id_same, Id, tree_of, TableValue, documents_of, found, id_at, is_live, live, swept, named, feed_of, feed_without, tree_at, ArePlaces, AreRows, AllBelow, IsKept, IsPlace, Kept, Sets}
use Rattle.couch_base.proofs.Found.{tree_of-documents_of}
use Rattle.couch_base.proofs.Rows.{live_at, dead_at, live_same, live_more, get_set, get_set_apart, feed_swept, places_filter}

-- ---- ids at positions

-- the id of a document at its position
pub id_is_at : (docs : List (Id × Kept)) (i : ℕ) (id : Id) (k : Kept) → slice_get docs i ≡ Some (id, k) → id_at (keys_of docs) i ≡ id
id_is_at docs i id k is = ap (λ o. unwrap_or o []) (slice_get-map (λ (e : Id × Kept). e.0) docs i ∙ ap (option_map (λ (e : Id × Kept). e.0)) is)

-- a position stays the same when an id is appended
id_stays : (ids : List Id) (id : Id) (i : ℕ) → i < length ids → id_at (ids ++ id ∷ []) i ≡ id_at ids i
id_stays ids id i within = unwrap_or-slice_get (ids ++ id ∷ []) i [] ∙ get_or_append_left ids (id ∷ []) [] i within ∙ sym (unwrap_or-slice_get ids i [])

-- the appended id has the next position
pub id_last : (ids : List Id) (id : Id) → id_at (ids ++ id ∷ []) (length ids) ≡ id
id_last ids id = ap (λ o. unwrap_or o []) (slice_get-last ids id)

-- ---- the index

pub named_append : (ids : List Id) (index : List (ℕ × ℕ)) (s i : ℕ) → named ids (index ++ (s, i) ∷ []) ≡ named ids index ++ (s, id_at ids i) ∷ []
named_append ids [] s i = refl
named_append ids (e ∷ es) s i = ap (λ l. (e.0, id_at ids e.1) ∷ l) (named_append ids es s i)

pub named_more : (ids : List Id) (id : Id) (index : List (ℕ × ℕ)) → ArePlaces (length ids) index → named (ids ++ id ∷ []) index ≡ named ids index
named_more ids id [] within = refl
named_more ids id (e ∷ es) within =
    (λ j. (e.0, id_stays ids id e.1 (within e (inl refl)) j) ∷ named_more ids id es (λ x m. within x (inr m)) j)

-- ---- lookups

-- what a lookup by id found is at its position, with this id
pub placed_at : (docs : List (Id × Kept)) (id : Id) (i : ℕ) (key : Id) (k : Kept) → Some i ≡ position (bytes_eq id) (keys_of docs) → slice_get docs i ≡ Some (key, k) → slice_get docs i ≡ Some (id, k)
placed_at docs id i key k first at =
    let hit = (position-Some (bytes_eq id) (keys_of docs) i key (sym first)).1 in
    let here = get_or_from_slice_get (keys_of docs) i key key (slice_get-map (λ (e : Id × Kept). e.0) docs i ∙ ap (option_map (λ (e : Id × Kept). e.0)) at) in
    let same : id ≡ key = id_is id key (sym (ap (bytes_eq id) here) ∙ hit) in
    at ∙ ap (λ (q : Id). Some (q, k)) (sym same)

-- what a lookup by id found is the document at its position
pub placed : (docs : List (Id × Kept)) (id : Id) (i : ℕ) (key : Id) (k : Kept) → Some i ≡ position (bytes_eq id) (keys_of docs) → slice_get docs i ≡ Some (key, k) → Some k ≡ found docs id → IsPlace docs id (Some i)
placed docs id i key k first at value =
    record {
      there = (k, placed_at docs id i key k first at, sym value);
      absent = λ none. absurd (none-some i (sym none));
    }

-- what is at a position is found by its id
pub standing : (docs : List (Id × Kept)) (i : ℕ) (id : Id) (k : Kept) → IsDistinct bytes_eq (keys_of docs) → slice_get docs i ≡ Some (id, k) → IsPlace docs id (Some i)
standing docs i id k once at = record {
  there = (k, at, lookup_from_place nat_list_eq_equiv docs i id k once at);
  absent = λ none. absurd (none-some i (sym none));
}

pub tree_at_place : (t : TableValue) → IsKept t → (i : ℕ) (id : Id) (k : Kept) → IsDistinct bytes_eq (keys_of t.entries) → slice_get t.entries i ≡ Some (id, k) → tree_of (documents_of t) id ≡ k.tree
tree_at_place t kept i id k once at = tree_of-documents_of t kept id ∙ ap tree_at (lookup_from_place nat_list_eq_equiv t.entries i id k once at)

-- ---- writes

-- writing back what is at a position changes nothing
pub set_same : (docs : List (Id × Kept)) (i : ℕ) (id : Id) (k : Kept) → slice_get docs i ≡ Some (id, k) → set_value_at docs i k ≡ docs
set_same [] i id k is = refl
set_same (e ∷ es) zero id k is = ap (λ (p : Id × Kept). (e.0, p.1) ∷ es) (sym (same_Some e (id, k) is))
set_same (e ∷ es) (suc i) id k is = ap (λ l. e ∷ l) (set_same es i id k is)

keys_append : (docs : List (Id × Kept)) (id : Id) (k : Kept) → keys_of (docs ++ (id, k) ∷ []) ≡ keys_of docs ++ id ∷ []
keys_append [] id k = refl
keys_append (e ∷ es) id k = ap (λ l. e.0 ∷ l) (keys_append es id k)

-- no two positions have the same id
pub apart_at : (docs : List (Id × Kept)) (place i : ℕ) (id : Id) (was : Kept) → IsDistinct bytes_eq (keys_of docs) → slice_get docs place ≡ Some (id, was) → i < length docs → (place ≡ i → ⊥) → bytes_eq (id_at (keys_of docs) i) id ≡ false
apart_at docs place i id was once at within apart =
    let ids = keys_of docs in
    let size : length ids ≡ length docs = length-keys_of docs in
    let here : get_or ids place [] ≡ id = sym (unwrap_or-slice_get ids place []) ∙ id_is_at docs place id was at in
    let there : get_or ids i [] ≡ id_at ids i = sym (unwrap_or-slice_get ids i []) in
    let low : place < length docs = slice_get_within docs place (id, was) at in
    elim (cases_Bool (nat_lt place i)) [
      | inl before ↦
          let less : place < i = grind (arith, before) in
          let differ : bytes_eq (get_or ids place []) (get_or ids i []) ≡ false = apart_from_distinct bytes_eq ids place i [] once less (omega (arith, within, size)) in
          let turned : bytes_eq id (id_at ids i) ≡ false = (λ j. bytes_eq (sym here j) (sym there j)) ∙ differ in
          false_from_ne_true _ (λ same. both_ways _ turned (ap (bytes_eq id) (id_is (id_at ids i) id same) ∙ id_same id))
      | inr behind ↦
          let less : i < place = (let high : i ≤ place = grind (arith, behind) in omega (arith, high, apart)) in
          (λ j. bytes_eq (sym there j) (sym here j)) ∙ apart_from_distinct bytes_eq ids i place [] once less (omega (arith, low, size))
    ]

kept_row : (id : Id) (ids : List Id) (e : ℕ × ℕ) (xs ys : List (ℕ × ℕ)) (t : Bool) → bytes_eq (id_at ids e.1) id ≡ false → named ids xs ≡ feed_without id (named ids ys) → named ids (cond t (e ∷ xs) xs) ≡ feed_without id (named ids (cond t (e ∷ ys) ys))
kept_row id ids e xs ys true differ rest =
    ap (λ l. (e.0, id_at ids e.1) ∷ l) rest
    ∙ sym (ap (λ b. cond (not b) ((e.0, id_at ids e.1) ∷ feed_without id (named ids ys)) (feed_without id (named ids ys))) differ)
kept_row id ids e xs ys false differ rest = rest

live_push : (docs : List (Id × Kept)) (rows : List (ℕ × ℕ)) (s i : ℕ) → is_live docs (s, i) ≡ true → live docs (rows ++ (s, i) ∷ []) ≡ live docs rows ++ (s, i) ∷ []
live_push docs rows s i alive =
    filter-append (is_live docs) rows ((s, i) ∷ []) ∙ ap (λ b. live docs rows ++ cond b ((s, i) ∷ []) []) alive

-- if the document at a position gets a greater sequence than all rows, its rows are no longer live, and the others stay
moved_rows : (docs new : List (Id × Kept)) (place s : ℕ) (id : Id) (was k : Kept) → IsDistinct bytes_eq (keys_of docs) → slice_get docs place ≡ Some (id, was) → slice_get new place ≡ Some (id, k) → k.seq ≡ s
    → ((i : ℕ) → (place ≡ i → ⊥) → slice_get new i ≡ slice_get docs i) → (rows : List (ℕ × ℕ)) → AllBelow s rows → ArePlaces (length docs) rows
    → named (keys_of docs) (live new rows) ≡ feed_without id (named (keys_of docs) (live docs rows))
moved_rows docs new place s id was k once at now latest others [] below places = refl
moved_rows docs new place s id was k once at now latest others (e ∷ rows) below places =
    let ids = keys_of docs in
    let rest = moved_rows docs new place s id was k once at now latest others rows (λ x m. below x (inr m)) (λ x m. places x (inr m)) in
    elim (cases_Bool (place == e.1)) [
      | inl hit ↦
          let same : place ≡ e.1 = grind (arith, hit) in
          let early : e.0 < s = below e (inl refl) in
          let dead : is_live new e ≡ false = dead_at new e.0 e.1 id k (subst (λ i. slice_get new i ≡ Some (id, k)) same now) (omega (arith, early, latest)) in
          let its : id_at ids e.1 ≡ id = subst (λ i. id_at ids i ≡ id) same (id_is_at docs place id was at) in
          ap (λ b. named ids (cond b (e ∷ live new rows) (live new rows))) dead
          ∙ rest
          ∙ sym (cond_both (is_live docs e) (e ∷ live docs rows) (live docs rows) (λ l. feed_without id (named ids l) ≡ feed_without id (named ids (live docs rows)))
          (λ _. ap (λ b. cond (not b) ((e.0, id_at ids e.1) ∷ feed_without id (named ids (live docs rows))) (feed_without id (named ids (live docs rows)))) (ap (λ (q : Id). bytes_eq q id) its ∙ id_same id))
          (λ _. refl))
      | inr miss ↦
          let apart : place ≡ e.1 → ⊥ = λ same. both_ways _ miss (grind (arith, same)) in
          let differ : bytes_eq (id_at ids e.1) id ≡ false = apart_at docs place e.1 id was once at (places e (inl refl)) apart in
          ap (λ b. named ids (cond b (e ∷ live new rows) (live new rows))) (live_same docs new e (others e.1 apart))
          ∙ kept_row id ids e (live new rows) (live docs rows) (is_live docs e) differ rest
    ]

-- a write to the document at a position moves it to the end of the feed
pub moved_feed : (docs new : List (Id × Kept)) (before middle after : List (ℕ × ℕ)) (s place : ℕ) (id : Id) (was k : Kept)
    → IsDistinct bytes_eq (keys_of docs) → slice_get docs place ≡ Some (id, was) → new ≡ set_value_at docs place k → keys_of new ≡ keys_of docs → k.seq ≡ s
    → middle ≡ before ++ (s, place) ∷ [] → after ≡ swept new middle → AreRows (length docs) s before
    → feed_of new after ≡ feed_without id (feed_of docs before) ++ (s, id) ∷ []
moved_feed docs new before middle after s place id was k once at written keys latest longer left rows =
    let ids = keys_of docs in
    let now : slice_get new place ≡ Some (id, k) = ap (λ (d : List (Id × Kept)). slice_get d place) written ∙ get_set docs place id was k at in
    ap (feed_of new) left
    ∙ feed_swept new middle
    ∙ ap (feed_of new) longer
    ∙ ap (λ l. named l (live new (before ++ (s, place) ∷ []))) keys
    ∙ ap (named ids) (live_push new before s place (live_at new s place id k now latest))
    ∙ named_append ids (live new before) s place
    ∙ (λ j. moved_rows docs new place s id was k once at now latest (λ i apart. ap (λ (d : List (Id × Kept)). slice_get d i) written ∙ get_set_apart docs place i k apart) before rows.below rows.places j ++ (s, id_is_at docs place id was at j) ∷ [])

-- a new document is appended to the table and to the index
pub added_feed : (docs new : List (Id × Kept)) (before after : List (ℕ × ℕ)) (s : ℕ) (id : Id) (k : Kept)
    → new ≡ docs ++ (id, k) ∷ [] → k.seq ≡ s → after ≡ before ++ (s, length docs) ∷ [] → ArePlaces (length docs) before
    → feed_of new after ≡ feed_of docs before ++ (s, id) ∷ []
added_feed docs new before after s id k grown latest longer places =
    let ids = keys_of docs in
    let size : length ids ≡ length docs = length-keys_of docs in
    let all = docs ++ (id, k) ∷ [] in
    (λ j. feed_of (grown j) (longer j))
    ∙ ap (λ l. named l (live all (before ++ (s, length docs) ∷ []))) (keys_append docs id k)
    ∙ ap (named (ids ++ id ∷ [])) (live_push all before s (length docs) (live_at all s (length docs) id k (slice_get-last docs (id, k)) latest) ∙ (λ j. live_more docs (id, k) before places j ++ (s, sym size j) ∷ []))
    ∙ named_append (ids ++ id ∷ []) (live docs before) s (length ids)
    ∙ (λ j. named_more ids id (live docs before) (subst (λ n. ArePlaces n (live docs before)) (sym size) (places_filter (length docs) (is_live docs) before places)) j ++ (s, id_last ids id j) ∷ [])

-- inserting after the others is appending
insert_end : (docs : List (Id × Kept)) (e : Id × Kept) → insert docs (length docs) e ≡ docs ++ e ∷ []
insert_end [] e = refl
insert_end (d ∷ ds) e = ap (λ l. d ∷ l) (insert_end ds e)

-- an id that the table does not have is appended
pub inserted : (docs : List (Id × Kept)) (id : Id) (k : Kept) → found docs id ≡ None → insert_entry bytes_eq docs id k ≡ docs ++ (id, k) ∷ []
inserted docs id k gone = insert_entry-absent bytes_eq id k docs (absent_from_lookup (bytes_eq id) docs gone)

-- the appended id is found
pub found_last : (docs : List (Id × Kept)) (id : Id) (k : Kept) → found docs id ≡ None → Sets (found docs) (found (docs ++ (id, k) ∷ [])) id k
found_last docs id k gone q =
    ap (λ es. found es q) (sym (insert_end docs (id, k)))
    ∙ lookup-insert nat_list_eq_equiv id k q docs (length docs) (none_passes_from_lookup (bytes_eq id) docs gone)
