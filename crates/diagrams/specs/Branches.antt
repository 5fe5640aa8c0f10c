-- Defines the ancestries that a list of branches stores. An ancestry is a list of revisions, oldest first. `start` is a
-- branch's start, `ends` is the list of the branches' ancestries, and `b` is a branch.
use Rattle.std.specs.Prelude.{◌≡◌, ℕ, ◌+◌, ◌<◌, ◌≤◌, List, [], ◌∷◌, ◌++◌, Option, Some, None, Vec, length, take, slice_get, unwrap_or}
use Rattle.std.specs.Option.{option_and_then}
use Rattle.std.specs.declared.alloc.Global.{Global}
use Rattle.rev_core.specs.Rev.{RevId}
use Rattle.diagrams.specs.declared.ancestries.Point.{Point}
use Rattle.diagrams.specs.declared.ancestries.Start.{Start}

-- A branch: its start, and its revisions after the first revision.
abbrev pub Branch : Type 0
Branch = Start × Vec RevId Global

-- The number of revisions of the ancestry that ends with a revision, or 0 without a revision.
abbrev pub count_of : Option Point → ℕ
count_of None = 0
count_of (Some p) = p.count

-- The ancestry that ends with a revision of one of the branches, or the empty ancestry without a revision.
abbrev pub path_in : List (List RevId) → Option Point → List RevId
path_in ends None = []
path_in ends (Some p) = take p.count (unwrap_or (slice_get ends p.branch) [])

-- The ancestry that ends with the newest revision of branch b.
abbrev pub end_in : List (List RevId) → Branch → List RevId
end_in ends b = path_in ends b.0.from ++ b.0.rev ∷ b.1.items

-- The ancestries of further branches, after the branches with the ancestries `ends`.
abbrev pub ends_after : List (List RevId) → List Branch → List (List RevId)
ends_after ends [] = []
ends_after ends (b ∷ bs) = end_in ends b ∷ ends_after (ends ++ end_in ends b ∷ []) bs

-- The ancestry that ends with the newest revision of each branch.
abbrev pub ends_of : List Branch → List (List RevId)
ends_of bs = ends_after [] bs

-- The ancestry that ends with the newest revision of the branch with an index.
abbrev pub end_at : List Branch → ℕ → List RevId
end_at bs i = unwrap_or (slice_get (ends_of bs) i) []

-- The ancestry that ends with a revision of one of the branches `bs`, or the empty ancestry without a revision.
abbrev pub path_of : List Branch → Option Point → List RevId
path_of bs at = path_in (ends_of bs) at

-- The parent of the first revision of the branch with an index, if there is one.
abbrev pub from_of : List Branch → ℕ → Option Point
from_of bs i = option_and_then (λ (b : Branch). b.0.from) (slice_get bs i)

-- The revision p is in a branch with an index below i.
pub record IsWithin (bs : List Branch) (i : ℕ) (p : Point) : Type 0 where
  pub earlier : p.branch < i
  pub reached : p.count ≤ length (end_at bs p.branch)

-- The parent of each branch's first revision is in an earlier branch.
abbrev pub AreLinked : List Branch → Type 0
AreLinked bs = (i : ℕ) (p : Point) → from_of bs i ≡ Some p → IsWithin bs i p

-- The new list of branches is the old list, with further branches at the end.
abbrev pub Extends : List Branch → List Branch → Type 0
Extends old new = (more : List Branch) × (new ≡ old ++ more)

-- The ancestry of branch i has the revision r directly after the revision `at`, or begins with r if `at` is None.
pub record Follows (bs : List Branch) (at : Option Point) (r : RevId) (i : ℕ) : Type 0 where
  pub stored : i < length bs
  pub reached : count_of at + 1 ≤ length (end_at bs i)
  pub path : take (count_of at + 1) (end_at bs i) ≡ path_of bs at ++ r ∷ []
