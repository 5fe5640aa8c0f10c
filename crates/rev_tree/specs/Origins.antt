-- Defines how a tree stores the origins of its revisions, and the tree that nodes and origins represent.
use Rattle.std.specs.Prelude.{◌≡◌, ℕ, ◌+◌, ◌*◌, ◌^◌, ◌≤◌, List, map, length, get_or}
use Rattle.std.specs.FinMap as finmap
use Rattle.rev_core.specs.Rev.{RevId}
use Rattle.rev_tree.specs.Nodes.{IsLed, IsLinked, no_origin, places_from, revs_in, tree_of}
use Rattle.rev_tree.specs.Node.{NodeValue}
use Rattle.rev_tree.specs.Tree.{TreeValue}
use Rattle.rev_tree.specs.declared.origin.Origin.{Origin}
use Rattle.rev_tree.specs.declared.origin.Origin.TheVariants.{Local, Feed}
use Rattle.rev_tree.specs.declared.origins.SmallOrigin.{SmallOrigin}
use Rattle.rev_tree.specs.declared.origins.SmallOrigin.TheVariants as small

-- The origins of a tree's revisions: one origin of all revisions, or the origin of each node and the number of origins
-- that can be stored without allocating.
pub data OriginsValue : Type 0 where
  one : Origin → OriginsValue
  each : List Origin → ℕ → OriginsValue

-- The origin that a session's feed gives, from the halves `high` and `low` of the session's number.
abbrev pub feed_origin : ℕ → ℕ → ℕ → Origin
feed_origin high low seq = Feed (record { 0 = high * 2 ^ 64 + low }) seq

abbrev pub small_origin : SmallOrigin → Origin
small_origin (small.Local number) = Local number
small_origin (small.Feed high low seq) = feed_origin high low seq

-- The origin of the node at position i.
abbrev pub origin_at : OriginsValue → ℕ → Origin
origin_at (one o) i = o
origin_at (each os capacity) i = get_or os i no_origin

-- The origins are one origin of all nodes, or a list of n origins, one for each of n nodes.
abbrev pub IsOfNodes : OriginsValue → ℕ → Type 0
IsOfNodes (one o) n = Unit {0}
IsOfNodes (each os capacity) n = length os ≡ n

-- The origins of n nodes can be extended by `more` nodes of the origin o without allocating.
abbrev pub CanExtend : OriginsValue → ℕ → ℕ → Origin → Type 0
CanExtend (one p) n more o = p ≡ o
CanExtend (each os capacity) n more o = (length os ≡ n) × (n + more ≤ capacity)

-- Each revision of a list of nodes with the origin of its node.
abbrev pub labelled : OriginsValue → List NodeValue → List (RevId × Origin)
labelled os nodes = map (λ p. (p.0, origin_at os p.1)) (places_from 0 (revs_in nodes))

-- The tree that a list of nodes and their origins represent.
abbrev pub shown : List NodeValue → OriginsValue → TreeValue
shown nodes os = record {
  origins = finmap.from_entries (labelled os nodes);
  parents = (tree_of nodes).parents;
  contents = (tree_of nodes).contents;
}

-- The stored form of a tree: its nodes, their origins, and the index of the winner's node.
pub record IsStored (nodes : List NodeValue) (os : OriginsValue) (best : ℕ) : Type 0 where
  pub linked : IsLinked nodes
  pub led : IsLed nodes best
  pub origins : IsOfNodes os (length nodes)
