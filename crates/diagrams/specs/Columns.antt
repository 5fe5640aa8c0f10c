-- Defines the columns of a document's drawing, as specified in docs/PROFILE.md, "Pictures".
use Rattle.std.specs.Prelude.{◌≡◌, ℕ, ◌==◌, ◌||◌, ◌+◌, ◌-◌, ◌^◌, List, [], ◌∷◌, ◌++◌, codes, decimal, fold, if◌then◌else◌, length, map, max, nat_lt, option_map, unwrap_or}
use Rattle.std.specs.List.{Contains, flat_map, zip}
use Rattle.std.specs.List.Sorted.{IsStrictlyIncreasing}
use Rattle.rev_core.specs.Rev.{RevId}
use Rattle.diagrams.specs.declared.ancestries.Ancestries.{Ancestries}
use Rattle.diagrams.specs.declared.axis.Cell.{Cell}
use Rattle.diagrams.specs.declared.document.Leaf.{Leaf}
use Rattle.diagrams.specs.declared.rows.Row.{Row}
use Rattle.diagrams.specs.Ancestries.{ancestor_in, ancestry_of}
use Rattle.diagrams.specs.Ink.{short_text}

-- The generation of the oldest revision in a leaf's row.
abbrev pub start_of : Leaf → Row → ℕ
start_of leaf row = if row.hang == 0 || row.hang == 2 ^ 32 - 1 then leaf.oldest else row.hang + 1

-- The generations at which a leaf's row ends, begins and branches off.
abbrev pub marks_of : Leaf × Row → List ℕ
marks_of (leaf, row) = leaf.rev.generation ∷ (start_of leaf row ∷ (if row.hang == 0 then [] else row.hang ∷ []))

abbrev pub marks : List Leaf → List Row → List ℕ
marks leaves rows = flat_map marks_of (zip leaves rows)

-- The list `marked` has the marked generations of a drawing, each once and in rising order.
pub record AreMarked (leaves : List Leaf) (rows : List Row) (marked : List ℕ) : Type 0 where
  pub rising : IsStrictlyIncreasing marked
  pub every : (g : ℕ) → Contains (marks leaves rows) g → Contains marked g
  pub only : (g : ℕ) → Contains marked g → Contains (marks leaves rows) g

-- The first and the last generation of the column between two successive marked generations, if there is a generation
-- between them.
abbrev pub between : ℕ → ℕ → List (ℕ × ℕ)
between one next = if nat_lt (one + 1) next then (one + 1, next - 1) ∷ [] else []

-- The first and the last generation of each column, from the marked generations.
abbrev pub spans : List ℕ → List (ℕ × ℕ)
spans [] = []
spans (g ∷ []) = (g, g) ∷ []
spans (g ∷ (next ∷ rest)) = (g, g) ∷ (between g next ++ spans (next ∷ rest))

-- The text of a column for several generations.
abbrev pub more_text : ℕ → ℕ → List ℕ
more_text low high = decimal (high - low + 1) ++ codes " more"

-- The number of characters that a column shows of an ancestry.
abbrev pub width_in : ℕ → ℕ → List RevId → ℕ
width_in low high path =
    if low == high then unwrap_or (option_map (λ r. length (short_text r)) (ancestor_in path low)) 0
    else unwrap_or (option_map (λ r. length (more_text low high)) (ancestor_in path high)) 0

-- The number of characters of the widest text in a column, not counting leaves.
abbrev pub width_of : Ancestries → List Leaf → ℕ → ℕ → ℕ
width_of a leaves low high = fold (λ width leaf. max width (width_in low high (ancestry_of a leaf.parent))) 0 leaves

-- The column from one generation to another.
abbrev pub column_of : Ancestries → List Leaf → ℕ × ℕ → Cell
column_of a leaves (low, high) = record { low = low; high = high; width = width_of a leaves low high }
