-- Defines the stored form of a tree: a list of nodes, which have the positions of their parents, and an index that maps
-- revisions to positions.
use Rattle.std.specs.Prelude.{◌≡◌, ℕ, ◌+◌, ◌^◌, ◌<◌, ◌≤◌, Bool, true, false, cond, List, [], ◌∷◌, ◌++◌, map, length, Option, Some, None, slice_get, IfSome}
use Rattle.std.specs.FinMap as finmap
use Rattle.std.specs.Option.{option_map_or}
use Rattle.std.specs.Ordering.{is_lt, bool_cmp, ordering_then}
use Rattle.rev_core.specs.Rev.{RevId, rev_cmp}
use Rattle.rev_core.specs.Ancestry.{is_among}
use Rattle.rev_core.specs.SmallRev.{blocks_of}
use Rattle.rev_tree.specs.InOrder.{first_of}
use Rattle.rev_tree.specs.Tree.{TreeValue, IsTree, is_parent, leaves}
use Rattle.rev_tree.specs.Content.{ContentValue}
use Rattle.rev_tree.specs.Node.{NodeValue}
use Rattle.rev_tree.specs.Room.{HasIndexRoom}
use Rattle.rev_tree.specs.Steps.{with_rev}
use Rattle.rev_tree.specs.declared.origin.Origin.{Origin}
use Rattle.rev_tree.specs.declared.origin.Origin.TheVariants.{Local}

-- The revision of each node of a list, in the order of the list.
abbrev pub revs_in : List NodeValue → List RevId
revs_in nodes = map (λ n. n.rev) nodes

-- No revision occurs twice in a list.
abbrev pub Distinct : List RevId → Type 0
Distinct [] = Unit {0}
Distinct (r ∷ revs) = (is_among r revs ≡ false) × Distinct revs

-- Each revision of a list, paired with its position. Positions are counted from the integer i.
abbrev pub places_from : ℕ → List RevId → List (RevId × ℕ)
places_from i [] = []
places_from i (r ∷ revs) = (r, i) ∷ places_from (i + 1) revs

-- The position of the node of revision r in the list of nodes, or `None` if no node has r.
abbrev pub place_of : List NodeValue → RevId → Option ℕ
place_of nodes r = finmap.find rev_cmp r (places_from 0 (revs_in nodes))

-- The node of revision r, or `None` if no node has r.
abbrev pub node_of : List NodeValue → RevId → Option NodeValue
node_of nodes r = finmap.find rev_cmp r (map (λ n. (n.rev, n)) nodes)

-- The revision at position i of a list, or `None` if the position is `None` or outside the list.
abbrev pub rev_at : List RevId → Option ℕ → Option RevId
rev_at revs None = None
rev_at revs (Some i) = slice_get revs i

-- The parent of node n: the revision at the position that n stores for its parent.
abbrev pub parent_in : List RevId → NodeValue → Option RevId
parent_in revs n = rev_at revs n.parent

-- A list with one map entry of key r and value x, or the empty list if no value is given.
abbrev pub entry_of : {X : Type 0} → RevId → Option X → List (RevId × X)
entry_of r None = []
entry_of r (Some x) = (r, x) ∷ []

-- A list of map entries. If the function f returns a value for a node, the list has one entry for this node, and
-- otherwise no entry for it. The key of a node's map entry is the node's revision.
abbrev pub entries_of : {X : Type 0} → (NodeValue → Option X) → List NodeValue → List (RevId × X)
entries_of f [] = []
entries_of f (n ∷ nodes) = entry_of n.rev (f n) ++ entries_of f nodes

-- The origin that `tree_of` gives each revision. Nodes have no origins, because a tree stores the origins of its
-- revisions itself.
abbrev pub no_origin : Origin
no_origin = Local 0

-- The revision tree that a list of nodes represents, with `no_origin` as the origin of each revision.
abbrev pub tree_of : List NodeValue → TreeValue
tree_of nodes = record {
  origins = finmap.from_entries (entries_of (λ n. Some no_origin) nodes);
  parents = finmap.from_entries (entries_of (parent_in (revs_in nodes)) nodes);
  contents = finmap.from_entries (entries_of (λ n. n.content) nodes);
}

-- Node n is consistent: its parent's index is in range, and its flag says whether n is a parent of another node.
pub record IsNode (nodes : List NodeValue) (n : NodeValue) : Type 0 where
  pub parent : IfSome n.parent (λ i. i < length nodes)
  pub child : n.has_child ≡ is_parent (tree_of nodes) n.rev

-- The invariant of a list of nodes: revisions are distinct, and each node is consistent with the others.
pub record IsLinked (nodes : List NodeValue) : Type 0 where
  pub once : Distinct (revs_in nodes)
  pub each : (r : RevId) (n : NodeValue) → node_of nodes r ≡ Some n → IsNode nodes n

-- Whether node n has a content that deletes the document.
abbrev pub deletes : NodeValue → Bool
deletes n = option_map_or (λ (b : ContentValue). b.deleted) n.content false

-- Whether leaf n goes before the best leaf so far in the winner's order, or a best leaf is not known yet.
abbrev pub goes_before : NodeValue → Option NodeValue → Bool
goes_before n None = true
goes_before n (Some best) = is_lt (ordering_then (bool_cmp (deletes n) (deletes best)) (rev_cmp best.rev n.rev))

-- The number 1 if revision r is not in the list `known`, and otherwise 0.
abbrev pub unless_among : List RevId → RevId → ℕ
unless_among known r = cond (is_among r known) 0 1

-- The number of revisions of a list that are not in the list `known`.
abbrev pub count_new : List RevId → List RevId → ℕ
count_new known [] = 0
count_new known (r ∷ revs) = unless_among known r + count_new known revs

-- The number of heap blocks that nodes need for the revisions of a list.
abbrev pub count_blocks : List RevId → ℕ
count_blocks [] = 0
count_blocks (r ∷ revs) = blocks_of r + count_blocks revs

-- The nodes represent a tree, and `best` is the index of the winner's node if the tree has a winner.
pub record IsLed (nodes : List NodeValue) (best : ℕ) : Type 0 where
  pub tree : IsTree (tree_of nodes)
  pub first : slice_get (revs_in nodes) best ≡ first_of (leaves (tree_of nodes))

-- A list of nodes, with two capacities: the number of nodes and the number of index entries that can be stored without
-- allocating.
pub record NodesValue : Type 0 where
  pub items : List NodeValue
  pub capacity : ℕ
  pub index_capacity : ℕ

-- The list of nodes v has space for `more` further nodes. A list that is too long to be scanned needs an index. If the
-- list is too long to be scanned after adding `more` nodes, the index has space for an entry of each node.
pub record HasRoom (v : NodesValue) (more : ℕ) : Type 0 where
  pub few : length v.items + more < 2 ^ 32
  pub nodes : length v.items + more ≤ v.capacity
  pub places : HasIndexRoom (length v.items + more) v.index_capacity

-- The effect of adding revision r to the list of nodes `old`, which gives the list `new`. The node of the revision r is
-- at position k of the list `new`, and the nodes of `old` keep their positions. If the revision r is new, adding its
-- node uses the reserved space for one node. If r is not new, adding r uses no space.
pub record HasGained (old new : NodesValue) (r : RevId) (k : ℕ) : Type 0 where
  pub tree : tree_of new.items ≡ with_rev (tree_of old.items) r no_origin
  pub at : slice_get (revs_in new.items) k ≡ Some r
  pub kept : (i : ℕ) (q : RevId) → slice_get (revs_in old.items) i ≡ Some q → slice_get (revs_in new.items) i ≡ Some q
  pub len : length new.items ≤ length old.items + 1
  pub room : (more : ℕ) → HasRoom old (unless_among (revs_in old.items) r + more) → HasRoom new more
