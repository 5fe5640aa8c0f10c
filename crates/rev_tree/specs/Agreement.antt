-- Relates the trees of one document in two databases, as specified in docs/PROFILE.md, "Both ways", and in CouchDB,
-- "Replication and conflict model".
use Rattle.std.specs.Prelude.{◌≡◌, ◌⊎◌, true, None, Some}
use Rattle.std.specs.FinMap.{get}
use Rattle.rev_core.specs.Rev.{RevId}
use Rattle.rev_tree.specs.Content.{ContentValue}
use Rattle.rev_tree.specs.Tree.{TreeValue, has}

-- Two trees agree: no revision has different parents in the two trees, and no revision has different contents.
pub record Agree (s t : TreeValue) : Type 0 where
  pub parents : (c p q : RevId) → get s.parents c ≡ Some p → get t.parents c ≡ Some q → p ≡ q
  pub contents : (r : RevId) (b d : ContentValue) → get s.contents r ≡ Some b → get t.contents r ≡ Some d → b ≡ d

-- Tree t has complete histories: each of its revisions without a known parent has generation 1.
abbrev pub IsWhole : TreeValue → Type 0
IsWhole t = (r : RevId) → has t r ≡ true → get t.parents r ≡ None → r.generation ≡ 1

-- Whether r is a root of tree t: a revision of the tree without a known parent.
abbrev pub IsRoot : TreeValue → RevId → Type 0
IsRoot t r = (has t r ≡ true) × (get t.parents r ≡ None)

-- Tree t has grown from tree `old` by adding revisions, edges and contents of tree `other`. Tree t keeps the edges of
-- `old`, and all revisions, edges and contents of t are from `old` or `other`. Each root of tree t is a root of `old`
-- or of `other`.
pub record IsGrownBy (old other t : TreeValue) : Type 0 where
  pub kept : (c p : RevId) → get old.parents c ≡ Some p → get t.parents c ≡ Some p
  pub revs : (r : RevId) → has t r ≡ true → (has old r ≡ true) ⊎ (has other r ≡ true)
  pub parents : (c p : RevId) → get t.parents c ≡ Some p → (get old.parents c ≡ Some p) ⊎ (get other.parents c ≡ Some p)
  pub contents : (r : RevId) (b : ContentValue) → get t.contents r ≡ Some b
      → (get old.contents r ≡ Some b) ⊎ (get other.contents r ≡ Some b)
  pub roots : (r : RevId) → IsRoot t r → IsRoot old r ⊎ IsRoot other r
