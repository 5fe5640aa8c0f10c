-- Defines ancestries, as specified in docs/PROFILE.md, "Ancestries". A document's member `_revisions` (CouchDB,
-- "Replication Protocol") represents an ancestry.
use Rattle.std.specs.Prelude.{◌≡◌, ℕ, ◌+◌, ◌-◌, ◌<◌, Bool, List, [], ◌∷◌, length, Option, Some, None, Result, Ok, Err, if◌then◌else◌, nat_lt, ◌==◌}
use Rattle.std.specs.List.{AllByRecursion, list_any}
use Rattle.std.specs.Ordering.{eq_by_cmp}
use Rattle.rev_core.specs.Rev.{RevId, IsRev, rev_cmp}
use Rattle.rev_core.specs.declared.fault.RevFault.{RevFault}
use Rattle.rev_core.specs.declared.fault.RevFault.TheVariants as faults

-- In a list of revisions, each revision's generation is one above the generation of the next revision.
abbrev pub FallsByOne : List RevId → Type 0
FallsByOne [] = Unit {0}
FallsByOne (r ∷ []) = Unit {0}
FallsByOne (r ∷ (s ∷ rest)) = (r.generation ≡ s.generation + 1) × FallsByOne (s ∷ rest)

-- An ancestry: a nonempty list of revisions, in which each generation is one above the next revision's generation.
pub record IsAncestry (revs : List RevId) : Type 0 where
  pub nonempty : 0 < length revs
  pub each : AllByRecursion IsRev revs
  pub falls : FallsByOne revs

-- The first revision of a list. The first revision of an ancestry is the ancestry's newest revision.
abbrev pub head_of : List RevId → Option RevId
head_of [] = None
head_of (r ∷ rest) = Some r

-- The edges of an ancestry: pairs of a child and the child's parent, with the newest child first.
abbrev pub edges_of : List RevId → List (RevId × RevId)
edges_of [] = []
edges_of (r ∷ []) = []
edges_of (r ∷ (s ∷ rest)) = (r, s) ∷ edges_of (s ∷ rest)

-- Whether revision r is the parent in one of the given edges.
abbrev pub has_parent : List (RevId × RevId) → RevId → Bool
has_parent edges r = list_any (λ (e : RevId × RevId). eq_by_cmp rev_cmp r e.1) edges

-- Whether revision r is in a list of revisions.
abbrev pub is_among : RevId → List RevId → Bool
is_among r revs = list_any (eq_by_cmp rev_cmp r) revs

-- The revisions that have the given signatures, in the order in which the signatures are listed. The first revision has
-- the generation `start`, and each further revision's generation is one less than the previous revision's generation.
abbrev pub numbered : ℕ → List (List ℕ) → List RevId
numbered start [] = []
numbered start (sig ∷ sigs) = record { generation = start; sig = sig } ∷ numbered (start - 1) sigs

-- The ancestry with a given newest generation and given signatures, or the error that prevents building the ancestry.
abbrev pub ancestry_read : ℕ → List (List ℕ) → Result (List RevId) RevFault
ancestry_read start sigs =
    if length sigs == 0 then Err faults.NoIds
    else (if nat_lt start (length sigs) then Err faults.StartTooSmall else Ok (numbered start sigs))
