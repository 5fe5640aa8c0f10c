-- Defines the rows of a document's drawing, as specified in docs/PROFILE.md, "Pictures".
use Rattle.std.specs.Prelude.{◌≡◌, ℕ, ◌==◌, ◌-◌, ◌<◌, ◌≤◌, List, [], ◌∷◌, ◌++◌, filter, get_or, if◌then◌else◌, length, map, nat_lt, take}
use Rattle.diagrams.specs.declared.ancestries.Ancestries.{Ancestries}
use Rattle.diagrams.specs.declared.document.Leaf.{Leaf}
use Rattle.diagrams.specs.declared.rows.OpenRow.{OpenRow}
use Rattle.diagrams.specs.declared.rows.Row.{Row}
use Rattle.diagrams.specs.Ancestries.{ancestry_of, newest_generation, shared_count}

-- The generation of the newest ancestor that the leaves of two consecutive rows share, or 0 if they share no ancestor.
-- The lower row branches off at this generation.
abbrev pub hang_of : Ancestries → Leaf → Leaf → ℕ
hang_of a one next =
    newest_generation (take (shared_count (ancestry_of a one.parent) (ancestry_of a next.parent)) (ancestry_of a one.parent))

abbrev pub hangs_after : Ancestries → Leaf → List Leaf → List ℕ
hangs_after a one [] = []
hangs_after a one (next ∷ rest) = hang_of a one next ∷ hangs_after a next rest

-- For each row, the generation at which the row branches off, or 0. The first row does not branch off.
abbrev pub hangs_of : Ancestries → List Leaf → List ℕ
hangs_of a [] = []
hangs_of a (first ∷ rest) = 0 ∷ hangs_after a first rest

-- Row i branches off row p: the last earlier row that begins before row i branches off. If row i does not branch off, p
-- is 0.
pub record IsParent (hangs : List ℕ) (i p : ℕ) : Type 0 where
  pub none : get_or hangs i 0 ≡ 0 → p ≡ 0
  pub earlier : 0 < get_or hangs i 0 → p < i
  pub lower : 0 < get_or hangs i 0 → get_or hangs p 0 < get_or hangs i 0
  pub last : (j : ℕ) → p < j → j < i → get_or hangs i 0 ≤ get_or hangs j 0

-- The generations of the vertical edges from a row to the next row, from those below the next row, and the generation
-- at which the next row branches off.
abbrev pub edges_above : List ℕ → ℕ → List ℕ
edges_above below hang = filter (λ g. nat_lt g hang) below ++ (if hang == 0 then [] else hang ∷ [])

-- The generations of the vertical edges from a row to the next row. The argument has the generation at which each lower
-- row branches off.
abbrev pub edges_of : List ℕ → List ℕ
edges_of [] = []
edges_of (hang ∷ hangs) = edges_above (edges_of hangs) hang

abbrev pub edges_by_row : List ℕ → List (List ℕ)
edges_by_row [] = []
edges_by_row (hang ∷ hangs) = edges_of hangs ∷ edges_by_row hangs

-- The rows of a drawing.
pub record AreRows (a : Ancestries) (leaves : List Leaf) (rows : List Row) : Type 0 where
  pub hangs : map (λ r. r.hang) rows ≡ hangs_of a leaves
  pub parents : (i : ℕ) → i < length leaves → IsParent (hangs_of a leaves) i (get_or (map (λ r. r.parent) rows) i 0)
  pub firsts : map (λ r. r.first) rows ≡ map (λ l. l.oldest) leaves
  pub below : map (λ r. r.below.items) rows ≡ edges_by_row (hangs_of a leaves)

-- ---- the open rows: the rows from which a later row may branch off

abbrev pub open_hangs : List OpenRow → List ℕ
open_hangs rows = map (λ r. r.hang) rows

abbrev pub open_rows : List OpenRow → List ℕ
open_rows rows = map (λ r. r.row) rows

-- From the end, rows that branch off at the generation `hang` or later are removed. The last remaining row is p. If no
-- row remains, p is 0.
pub record Closes (hang : ℕ) (old new : List OpenRow) (p : ℕ) : Type 0 where
  pub few : length new ≤ length old
  pub rest : new ≡ take (length new) old
  pub high : (k : ℕ) → length new ≤ k → k < length old → hang ≤ get_or (open_hangs old) k 0
  pub low : 0 < length new → get_or (open_hangs old) (length new - 1) 0 < hang
  pub last : 0 < length new → p ≡ get_or (open_rows old) (length new - 1) 0
  pub none : length new ≡ 0 → p ≡ 0
