-- Ids that are stored one after the other: how the ids are stored, and how the ids are read.
use Rattle.proof_prelude.proofs.{◌≡◌, ℕ, ◌+◌, ◌-◌, ◌<◌, ◌≤◌, List, [], ◌∷◌, ◌++◌, length, map, take, drop, get_or, flat_map, refl, sym, ap, ◌∙◌, subst, append_assoc, length-append, drop_more, take-append_seam, list_any, bytes_eq, ◌||◌, arith}
use Rattle.std.proofs.Math.Seq.{drop-append_seam}
use Rattle.couch_base.specs.{RowValue, Id}
use Rattle.repl_peer.specs.{AreEnds, ends_from, ids_from}

-- ---- one end of many

pub next_end : (start : ℕ) (ends : List ℕ) (i len : ℕ) → i < length ends → AreEnds start (drop i ends) len → (start ≤ get_or ends i 0) × AreEnds (get_or ends i 0) (drop (i + 1) ends) len
next_end start ends i len h all = subst (λ rest. AreEnds start rest len) (drop_more ends i 0 h) all

pub ends_within : (start : ℕ) (ends : List ℕ) (len : ℕ) → AreEnds start ends len → start ≤ len
ends_within start [] len h = h
ends_within start (end ∷ ends) len h =
    let first = h.0 in
    let rest = ends_within end ends len h.1 in
    omega arith

-- ---- ids stored one after the other

pub stored_ends : (start : ℕ) (rows : List RowValue) (len : ℕ) → len ≡ start + length (flat_map (λ (row : RowValue). row.id) rows) → AreEnds start (ends_from start (map (λ (row : RowValue). row.id) rows)) len
stored_ends start [] len is = omega arith
stored_ends start (row ∷ rows) len is = (
  omega arith,
  stored_ends (start + length row.id) rows len
      (let e = length-append row.id (flat_map (λ (row : RowValue). row.id) rows) in omega arith),
)

pub stored_first : (before id after : List ℕ) (start : ℕ) → start ≡ length before → take (start + length id - start) (drop start (before ++ (id ++ after))) ≡ id
stored_first before id after start is =
    ap (take (start + length id - start)) (ap (λ n. drop n (before ++ (id ++ after))) is ∙ drop-append_seam before (id ++ after))
    ∙ ap (λ n. take n (id ++ after)) (omega arith)
    ∙ take-append_seam id after

pub stored_ids : (start : ℕ) (before : List ℕ) (rows : List RowValue) → start ≡ length before → ids_from start (ends_from start (map (λ (row : RowValue). row.id) rows)) (before ++ flat_map (λ (row : RowValue). row.id) rows) ≡ map (λ (row : RowValue). row.id) rows
stored_ids start before [] is = refl
stored_ids start before (row ∷ rows) is =
    let ids : List RowValue → List Id = map (λ (row : RowValue). row.id) in
    let text : List RowValue → List ℕ = flat_map (λ (row : RowValue). row.id) in
    let end : ℕ = start + length row.id in
    let moved : end ≡ length (before ++ row.id) = (let e = length-append before row.id in omega arith) in
    ap (λ id. id ∷ ids_from end (ends_from end (ids rows)) (before ++ (row.id ++ text rows))) (stored_first before row.id (text rows) start is)
    ∙ ap (λ t. row.id ∷ ids_from end (ends_from end (ids rows)) t) (sym (append_assoc before row.id (text rows)))
    ∙ ap (λ rest. row.id ∷ rest) (stored_ids end (before ++ row.id) rows moved)

-- ---- the ids of rows

pub rows_have : (id : Id) (rows : List RowValue) → list_any (λ (own : Id). bytes_eq own id) (map (λ (row : RowValue). row.id) rows) ≡ list_any (λ (row : RowValue). bytes_eq row.id id) rows
rows_have id [] = refl
rows_have id (row ∷ rows) = ap (λ later. bytes_eq row.id id || later) (rows_have id rows)
