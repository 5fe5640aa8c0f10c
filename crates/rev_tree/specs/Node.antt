-- This file defines a node of a revision tree, and how the parts of the node are stored.
use Rattle.std.specs.Prelude.{◌≡◌, ℕ, zero, suc, Bool, false, Option, Some, None}
use Rattle.rev_core.specs.Rev.{RevId}
use Rattle.rev_tree.specs.Content.{ContentValue}
use Rattle.rev_tree.specs.declared.node.Known.{Known}
use Rattle.rev_tree.specs.declared.node.Known.TheVariants.{Bare, Full}

-- A node: its revision, its content, its parent's index, and whether it is the parent of another node. A
-- node's content and the index of a node's parent may be unknown.
pub record NodeValue : Type 0 where
  pub rev : RevId
  pub parent : Option ℕ
  pub content : Option ContentValue
  pub has_child : Bool

-- A new node of revision r. The node has no parent, no content and no child.
abbrev pub new_node : RevId → NodeValue
new_node r = record { rev = r; parent = None; content = None; has_child = false }

-- Node n is the only node of a tree, so n has no parent and no child.
pub record IsSingle (n : NodeValue) : Type 0 where
  pub parent : n.parent ≡ None
  pub child : n.has_child ≡ false

-- Whether a node has a child, decoded from the node's stored form.
abbrev pub has_child_of : Known → Bool
has_child_of (Bare has_child counted) = has_child
has_child_of (Full has_child counted content) = has_child

-- The index of a stored node's parent, counted from 1, or 0 if the parent is not known.
abbrev pub counted_of : Known → ℕ
counted_of (Bare has_child counted) = counted
counted_of (Full has_child counted content) = counted

abbrev pub content_of : Known → Option ContentValue
content_of (Bare has_child counted) = None
content_of (Full has_child counted content) = Some content

-- The index of a node's parent, decoded from the stored number. The number stored for a node's parent is the parent's
-- index plus 1, or 0 if the parent is not known.
abbrev pub parent_of : ℕ → Option ℕ
parent_of zero = None
parent_of (suc place) = Some place
