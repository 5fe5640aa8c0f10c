-- Defines the list of revisions that a value of the type `Kept` stores. No public contract mentions the type `Kept`.
use Rattle.std.specs.Prelude.{List, [], ◌∷◌}
use Rattle.rev_core.specs.Rev.{RevId}
use Rattle.rev_tree.specs.declared.revs.Kept.{Kept}
use Rattle.rev_tree.specs.declared.revs.Kept.TheVariants.{One, Many}

-- The list of revisions that a value of the type `Kept` stores.
abbrev pub kept_revs : Kept → List RevId
kept_revs (One rev) = rev ∷ []
kept_revs (Many revs) = revs.items
