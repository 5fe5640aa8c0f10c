-- Defines what the stored form of a tree represents.
use Rattle.std.specs.Prelude.{◌≡◌, ℕ, ◌<◌, Bool, true, false, List, [], ◌∷◌, map, length, vec_capacity}
use Rattle.std.specs.Arc.{arc_value}
use Rattle.rev_tree.specs.Node.{NodeValue}
use Rattle.rev_tree.specs.Nodes.{no_origin}
use Rattle.rev_tree.specs.Origins.{OriginsValue, IsOfNodes, one, each, feed_origin, origin_at, small_origin}
use Rattle.rev_tree.specs.declared.origin.Origin.{Origin}
use Rattle.rev_tree.specs.declared.origin.Origin.TheVariants as origin
use Rattle.rev_tree.specs.declared.stored.Block.{Block}
use Rattle.rev_tree.specs.declared.stored.Form.{Form}
use Rattle.rev_tree.specs.declared.stored.Form.TheVariants.{Empty, LocalOne, FeedOne, Local, Feed, Each}
use Rattle.rev_tree.specs.declared.stored.Held.{Held}
use Rattle.rev_tree.specs.declared.stored.Held.TheVariants as held
use Rattle.rev_tree.specs.declared.stored.Shared.{Shared}
use Rattle.rev_tree.specs.declared.stored.Shared.TheVariants as shared

-- What a tree stores: its nodes, the origins of their revisions, and the index of the winner's node. The value also says
-- whether the nodes are in a list, because a tree with one revision may store its node without a list.
pub record StoredValue : Type 0 where
  pub items : List NodeValue
  pub origins : OriginsValue
  pub best : ℕ
  pub listed : Bool

-- The heap block of a tree: no block for an empty tree, the only node of a tree, or a block with a list of nodes.
pub data SharedValue : Type 0 where
  nothing : SharedValue
  only : NodeValue → SharedValue
  many : Block → SharedValue

-- The heap block of a stored tree.
abbrev pub shared_in : Form → SharedValue
shared_in Empty = nothing
shared_in (LocalOne single number) = only (arc_value single)
shared_in (FeedOne single high low seq) = only (arc_value single)
shared_in (Local block number) = many (arc_value block)
shared_in (Feed block high low seq) = many (arc_value block)
shared_in (Each block origins) = many (arc_value block)

abbrev pub owned_in : Shared → SharedValue
owned_in shared.Nothing = nothing
owned_in (shared.One single) = only (arc_value single)
owned_in (shared.Many block) = many (arc_value block)

abbrev pub held_in : Held → SharedValue
held_in held.Nothing = nothing
held_in (held.One single) = only (arc_value single.now)
held_in (held.Many block) = many (arc_value block.now)

-- The nodes in a heap block.
abbrev pub items_in : SharedValue → List NodeValue
items_in nothing = []
items_in (only node) = node ∷ []
items_in (many block) = block.nodes.items

-- The index of the winner's node in a heap block, which is 0 if the block has at most one node.
abbrev pub best_in : SharedValue → ℕ
best_in nothing = 0
best_in (only node) = 0
best_in (many block) = block.best

-- Whether a heap block has a list of nodes.
abbrev pub is_listed : SharedValue → Bool
is_listed nothing = false
is_listed (only node) = false
is_listed (many block) = true

-- The origins of the revisions of a stored tree.
abbrev pub origins_in : Form → OriginsValue
origins_in Empty = one no_origin
origins_in (LocalOne single number) = one (origin.Local number)
origins_in (FeedOne single high low seq) = one (feed_origin high low seq)
origins_in (Local block number) = one (origin.Local number)
origins_in (Feed block high low seq) = one (feed_origin high low seq)
origins_in (Each block origins) = each (map small_origin origins.items) (vec_capacity origins)

-- Each revision of the stored tree s has the origin o, and a listed origin belongs to a node.
pub record IsAllOf (s : StoredValue) (o : Origin) : Type 0 where
  pub at : (i : ℕ) → i < length s.items → origin_at s.origins i ≡ o
  pub nodes : IsOfNodes s.origins (length s.items)
