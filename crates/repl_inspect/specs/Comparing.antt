-- Defines the comparison of a document at a source with the document at a target, as specified in docs/PROFILE.md,
-- "Missing revisions" and "Merging", and in CouchDB, "Replication Protocol", `_revs_diff`. A comparison of a document
-- uses the document's trees in both databases, but no replication log.
use Rattle.std.specs.Prelude.{ℕ, Bool, false, not, ◌&&◌, List, [], ◌∷◌, filter, length, Option, None}
use Rattle.std.proofs.Math.Bool.{beq}
use Rattle.std.specs.Option.{option_map_or, option_or}
use Rattle.std.specs.Str.{bytes_eq}
use Rattle.std.specs.FinMap.{get}
use Rattle.rev_core.specs.Rev.{RevId}
use Rattle.rev_core.specs.Ancestry.{edges_of}
use Rattle.rev_tree.specs.Content.{ContentValue}
use Rattle.rev_tree.specs.Tree.{TreeValue, leaves, ancestors, missing, first_contradiction}
use Rattle.rev_tree.specs.declared.fault.Contradiction.{Contradiction}

-- The result of comparing a document at the source with the document at the target. The fields are the number of the
-- source's leaves, the leaves missing at the target, an optional contradiction, and the leaves whose known contents
-- differ. The contents of a leaf are compared only if both trees have a content of the leaf. The contradiction names a
-- revision with different parents at source and target: the first such revision in the ancestries of the missing
-- leaves.
pub record ComparisonValue : Type 0 where
  pub leaves : ℕ
  pub missing : List RevId
  pub contradiction : Option Contradiction
  pub differing : List RevId

-- The first contradiction between the ancestries of the given leaves and the target's tree. The search takes the leaves
-- in order, and each leaf's ancestry from its newest revision to its oldest.
abbrev pub contradiction_under : TreeValue → TreeValue → List RevId → Option Contradiction
contradiction_under source target [] = None
contradiction_under source target (leaf ∷ leaves) =
    option_or (first_contradiction target.parents (edges_of (ancestors source leaf)))
    (contradiction_under source target leaves)

abbrev pub same_content : ContentValue → ContentValue → Bool
same_content b d = beq b.deleted d.deleted && bytes_eq b.body d.body

-- Whether both trees have a content of revision r, and the two contents differ.
abbrev pub differs : TreeValue → TreeValue → RevId → Bool
differs source target r =
    option_map_or (λ b. option_map_or (λ d. not (same_content b d)) (get target.contents r) false)
    (get source.contents r) false

-- The comparison of a document's tree at a source with the target's tree.
abbrev pub compared : TreeValue → TreeValue → ComparisonValue
compared source target = record {
  leaves = length (leaves source);
  missing = missing target (leaves source);
  contradiction = contradiction_under source target (missing target (leaves source));
  differing = filter (differs source target) (leaves source);
}
