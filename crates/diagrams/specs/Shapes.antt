-- Defines the order of a document's leaves and the sizes of drawings, as specified in docs/PROFILE.md, "Pictures".
use Rattle.std.specs.Prelude.{◌≡◌, ℕ, ◌-◌, ◌^◌, List, [], ◌∷◌, ◌++◌, Option}
use Rattle.std.specs.declared.cmp.Ordering.{Ordering}
use Rattle.std.specs.Ordering.{nat_cmp, ordering_then}
use Rattle.std.specs.Cmp.Lexicographic.{slice_cmp}
use Rattle.rev_core.specs.Rev.{RevId, rev_cmp}
use Rattle.diagrams.specs.declared.ancestries.Ancestries.{Ancestries}
use Rattle.diagrams.specs.declared.ancestries.Point.{Point}
use Rattle.diagrams.specs.declared.document.Document.{Document}
use Rattle.diagrams.specs.declared.document.Leaf.{Leaf}
use Rattle.diagrams.specs.Ancestries.{Keeps, ancestry_of, shared_count}

-- The order in which a picture shows two leaves of a document with the ancestries `a`.
abbrev pub leaf_cmp : Ancestries → Leaf → Leaf → Ordering
leaf_cmp a one other =
    ordering_then (nat_cmp one.apart other.apart)
    (ordering_then (slice_cmp rev_cmp (ancestry_of a one.parent) (ancestry_of a other.parent)) (rev_cmp one.rev other.rev))

-- The sort key of a leaf that is added to a list of leaves. The argument `at` is the leaf's parent.
abbrev pub apart_of : Ancestries → List Leaf → Option Point → ℕ
apart_of a [] at = 0
apart_of a (first ∷ rest) at = 2 ^ 64 - 1 - shared_count (ancestry_of a first.parent) (ancestry_of a at)

-- A leaf with the ancestry `before` is added to a document.
pub record AddsLeaf (old new : Document) (leaf : Leaf) (before : List RevId) : Type 0 where
  pub last : Leaf
  pub leaves : new.leaves.items ≡ old.leaves.items ++ last ∷ []
  pub ancestry : ancestry_of new.ancestries last.parent ≡ before
  pub apart : last.apart ≡ apart_of new.ancestries old.leaves.items last.parent
  pub oldest : last.oldest ≡ leaf.oldest
  pub keeps : Keeps old.ancestries new.ancestries
