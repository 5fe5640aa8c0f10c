-- Defines when a document is in conflict, and which of the document's leaves conflict. The definitions follow
-- docs/PROFILE.md, "Leaves and the winner", and CouchDB, "Replication and conflict model".
use Rattle.std.specs.Prelude.{Bool, not, nat_le, List, [], filter, length, if◌then◌else◌}
use Rattle.rev_core.specs.Rev.{RevId}
use Rattle.rev_tree.specs.Tree.{TreeValue, leaves, is_deleted}

-- The live leaves (leaves that are not deleted) of a tree, with the winner first.
abbrev pub live : TreeValue → List RevId
live tree = filter (λ r. not (is_deleted tree r)) (leaves tree)

-- Whether a document is in conflict, that is, whether the document's tree has two or more live leaves.
abbrev pub in_conflict : TreeValue → Bool
in_conflict tree = nat_le 2 (length (live tree))

-- The leaves in conflict: all live leaves of a tree if the tree has two or more live leaves, else none.
abbrev pub conflicting : TreeValue → List RevId
conflicting tree = if in_conflict tree then live tree else []
