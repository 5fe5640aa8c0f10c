-- Defines when the parents in a document's tree agree with the order of a write's revisions, as specified in
-- docs/PROFILE.md, "The peer's law".
use Rattle.std.specs.Prelude.{◌≡◌, List, [], ◌∷◌, Some}
use Rattle.std.specs.FinMap.{FinMap, get}
use Rattle.rev_core.specs.Rev.{RevId, rev_cmp}
use Rattle.rev_core.specs.Ancestry.{FallsByOne}
use Rattle.couch_base.specs.Database.{DatabaseValue, tree_of}
use Rattle.repl_peer.specs.peer.Peer.{WrittenValue}

-- In the map `parents`, the parent of each revision of a list, except the last revision, is the next revision of the
-- list.
abbrev pub Follows : FinMap rev_cmp RevId → List RevId → Type 0
Follows parents [] = Unit {0}
Follows parents (r ∷ []) = Unit {0}
Follows parents (r ∷ (s ∷ rest)) = (get parents r ≡ Some s) × Follows parents (s ∷ rest)

-- If the generations of write w fall by one per revision (`FallsByOne`), each revision except the last has the next
-- revision as its parent in the document's tree.
abbrev pub StandsIn : DatabaseValue → WrittenValue → Type 0
StandsIn db w = FallsByOne w.ancestry → Follows (tree_of db.docs w.id).parents w.ancestry
