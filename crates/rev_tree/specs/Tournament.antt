-- Defines the comparison tree (`Tournament`), which finds the winner of a revision tree. The comparison tree is a
-- binary tree of comparisons between the leaves of the revision tree. A leaf is stored as the index of its node,
-- counted from 1. If an index of the comparison tree has no leaf, the number 0 is stored at this index.
use Rattle.std.specs.Prelude.{◌≡◌, ℕ, zero, suc, ◌-◌, ◌/◌, ◌<◌, ◌≤◌, ◌^◌, ◌⊎◌, Bool, true, false, cond, List, length, get_or, Option, Some, None, is_some, option_map, nat_lt, slice_get}
use Rattle.std.specs.declared.cmp.Ordering.{Ordering}
use Rattle.std.specs.Ordering.{is_lt, bool_cmp, ordering_then}
use Rattle.rev_core.specs.Rev.{RevId, rev_cmp}
use Rattle.rev_tree.specs.Node.{NodeValue}
use Rattle.rev_tree.specs.Index.{index_for}
use Rattle.rev_tree.specs.Nodes.{IsLinked, deletes, goes_before, revs_in}
use Rattle.rev_tree.specs.Room.{PlacesValue}

-- The key of a node in the winner's order: whether the node deletes the document, and its revision.
abbrev pub Key : Type 0
Key = Bool × RevId

abbrev pub key_of : NodeValue → Key
key_of n = (deletes n, n.rev)

-- The order of keys that decides which leaf wins: live revisions come before deletions, and then greater revisions come
-- first.
abbrev pub key_cmp : Key → Key → Ordering
key_cmp a b = ordering_then (bool_cmp a.0 b.0) (rev_cmp b.1 a.1)

-- `IsBefore a b` says that a leaf with the key a wins over a leaf with the key b, or that both keys are equal. The key
-- `None` means that a leaf is missing, and comes after every other key.
abbrev pub IsBefore : Option Key → Option Key → Type 0
IsBefore x None = Unit {0}
IsBefore None (Some b) = ⊥
IsBefore (Some a) (Some b) = is_lt (key_cmp b a) ≡ false

-- The key of the node that a stored number names. The comparison tree stores a node as a number, the node's index plus
-- 1. If the stored number is 0, there is no node, and the key is `None`.
abbrev pub entry : List NodeValue → ℕ → Option Key
entry nodes zero = None
entry nodes (suc p) = option_map key_of (slice_get nodes p)

-- The key of a node, if the node is a leaf.
abbrev pub leaf_key : Option NodeValue → Option Key
leaf_key None = None
leaf_key (Some n) = cond n.has_child None (Some (key_of n))

-- The key of the leaf at index k of the comparison tree, or `None` if this index has no leaf. The list `nodes` has the
-- nodes of the revision tree, and `winners` has the stored winners of comparisons. The number of nodes in the
-- comparison tree is `entered`.
abbrev pub under : List NodeValue → List ℕ → ℕ → ℕ → Option Key
under nodes winners entered k =
    cond (nat_lt k (length winners)) (entry nodes (get_or winners k 0))
    (cond (nat_lt (k - length winners) entered) (leaf_key (slice_get nodes (k - length winners))) None)

-- Each stored winner of a comparison has a content, and is one of the nodes that were entered into the comparison tree.
-- Each leaf that was entered into the comparison tree has a content. The key of a node that has a content never
-- changes.
pub record IsHeld (nodes : List NodeValue) (winners : List ℕ) (entered : ℕ) : Type 0 where
  pub within : entered ≤ length nodes
  pub fits : entered ≤ length winners
  pub places : (i : ℕ) → get_or winners i 0 ≤ entered
  pub contents : (i p : ℕ) (n : NodeValue) → get_or winners i 0 ≡ suc p → slice_get nodes p ≡ Some n → is_some n.content ≡ true
  pub leaves : (j : ℕ) (n : NodeValue) → j < entered → slice_get nodes j ≡ Some n → n.has_child ≡ false → is_some n.content ≡ true

-- The stored winner of each comparison, except possibly the comparison with index x, does not lose to either of the two
-- compared leaves.
pub record IsPlayed (nodes : List NodeValue) (winners : List ℕ) (entered x : ℕ) : Type 0 where
  pub held : IsHeld nodes winners entered
  pub ordered : (k : ℕ) → 2 ≤ k → k / 2 < length winners → (k / 2 ≡ x → ⊥) → IsBefore (entry nodes (get_or winners (k / 2) 0)) (under nodes winners entered k)

-- The number w is the stored form of the leaf at index k of the comparison tree.
pub record IsEntry (nodes : List NodeValue) (winners : List ℕ) (entered k w : ℕ) : Type 0 where
  pub key : entry nodes w ≡ under nodes winners entered k
  pub within : w ≤ entered
  pub content : (p : ℕ) (n : NodeValue) → w ≡ suc p → slice_get nodes p ≡ Some n → is_some n.content ≡ true

-- The stored numbers `one` and `other` represent two leaves, and w is the stored number of the leaf that wins.
pub record IsWinnerOf (nodes : List NodeValue) (one other w : ℕ) : Type 0 where
  pub either : (w ≡ one) ⊎ (w ≡ other)
  pub first : IsBefore (entry nodes w) (entry nodes one)
  pub second : IsBefore (entry nodes w) (entry nodes other)

-- The node at index `place` is a leaf, and no leaf comes before this node in the winner's order.
pub record IsBestLeaf (nodes : List NodeValue) (place : ℕ) : Type 0 where
  pub node : NodeValue
  pub at : slice_get nodes place ≡ Some node
  pub leaf : node.has_child ≡ false
  pub best : (j : ℕ) (n : NodeValue) → slice_get nodes j ≡ Some n → n.has_child ≡ false → goes_before n (Some node) ≡ false

-- The invariant of a tree's stored nodes, their index and their comparison tree. The position of a node in the list of
-- nodes, counted from 1, fits into 32 bits.
pub record IsIndexed (nodes : List NodeValue) (places : PlacesValue) : Type 0 where
  pub few : length nodes < 2 ^ 32
  pub index : places.entries ≡ index_for (revs_in nodes)
  pub linked : IsLinked nodes
  pub played : IsPlayed nodes places.winners places.entered 0
