-- Defines the stored ancestries of a document's leaves, as specified in docs/PROFILE.md, "Pictures".
use Rattle.std.specs.Prelude.{◌≡◌, ℕ, ◌-◌, ◌<◌, List, [], ◌∷◌, Option, Some, None, length, slice_get, nat_lt, if◌then◌else◌}
use Rattle.std.specs.Ordering.{eq_by_cmp}
use Rattle.std.specs.List.{common_prefix_len}
use Rattle.rev_core.specs.Rev.{RevId, rev_cmp}
use Rattle.diagrams.specs.declared.ancestries.Ancestries.{Ancestries}
use Rattle.diagrams.specs.declared.ancestries.Point.{Point}
use Rattle.diagrams.specs.Branches.{path_of}

-- The ancestry that ends with a stored revision, oldest revision first. Without a revision, the ancestry is empty.
abbrev pub ancestry_of : Ancestries → Option Point → List RevId
ancestry_of a at = path_of a.branches.entries at

-- The revision p, if there is one, is stored.
abbrev pub IsStored : Ancestries → Option Point → Type 0
IsStored a None = Unit {0}
IsStored a (Some p) = p.branch < length a.branches.entries

-- The new set still has each ancestry of the old set, under the same position.
pub record Keeps (old new : Ancestries) : Type 0 where
  pub stored : (at : Option Point) → IsStored old at → IsStored new at
  pub same : (at : Option Point) → IsStored old at → ancestry_of new at ≡ ancestry_of old at

-- The revision with a generation in an ancestry whose generations rise by one from revision to revision. In any other
-- ancestry, it is the revision that follows the oldest revision after as many revisions as the generation is higher.
abbrev pub ancestor_in : List RevId → ℕ → Option RevId
ancestor_in [] generation = None
ancestor_in (r ∷ rest) generation =
    if nat_lt generation r.generation then None else slice_get (r ∷ rest) (generation - r.generation)

-- The number of revisions that two ancestries share, beginning with the oldest revision.
abbrev pub shared_count : List RevId → List RevId → ℕ
shared_count one other = common_prefix_len (eq_by_cmp rev_cmp) one other

-- The generation of the newest revision of an ancestry, or 0 if the ancestry is empty.
abbrev pub newest_generation : List RevId → ℕ
newest_generation [] = 0
newest_generation (r ∷ []) = r.generation
newest_generation (r ∷ (s ∷ rest)) = newest_generation (s ∷ rest)
