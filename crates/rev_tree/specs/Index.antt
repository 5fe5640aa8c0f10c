-- Defines the index of a tree, which maps the hash of a revision to the position of the revision's node in the list of
-- nodes.
use Rattle.std.specs.Prelude.{ℕ, Bool, true, ◌&&◌, not, ◌+◌, ◌%◌, ◌^◌, List, [], ◌∷◌, ◌++◌, is_some, length, nat_eq, nat_lt, if◌then◌else◌}
use Rattle.std.specs.Map.{lookup}
use Rattle.std.specs.Hash.FoldHasher as hasher
use Rattle.rev_core.specs.Rev.{RevId}
use Rattle.rev_tree.specs.declared.nodes.TheConstants.{MOST_WALKED}

-- The 64-bit hash of a revision.
abbrev pub mark_of : RevId → ℕ
mark_of r = (hasher.finish (hasher.write hasher.initial r.sig) + r.generation) % 2 ^ 64

-- The entries of a tree's index after adding the hash `mark` with the position `place` of a node. Adding a hash that
-- already has an entry does not change the entries.
abbrev pub noted : List (ℕ × ℕ) → ℕ → ℕ → List (ℕ × ℕ)
noted entries mark place =
    if is_some (lookup (nat_eq mark) entries) then entries else entries ++ (mark, place) ∷ []

-- The entries of a tree's index after adding a hash for each revision of a list. The node of the first revision has the
-- position i, and each further node has the next position. A hash that already has a position in the index keeps this
-- position.
abbrev pub noted_from : List (ℕ × ℕ) → ℕ → List RevId → List (ℕ × ℕ)
noted_from entries i [] = entries
noted_from entries i (r ∷ revs) = noted_from (noted entries (mark_of r) i) (i + 1) revs

-- Whether the generations fall by one from each revision of a list to the next revision, as in an ancestry.
abbrev pub falls : List RevId → Bool
falls [] = true
falls (r ∷ []) = true
falls (r ∷ (s ∷ revs)) = nat_eq r.generation (s.generation + 1) && falls (s ∷ revs)

-- The index of a tree whose nodes have the revisions `revs`: a map from the revisions' hashes to the nodes' positions.
-- The index of a tree's nodes is empty if the nodes are few enough to be scanned. The index is also empty if
-- generations fall by one from each revision in `revs` to the next, and so determine the nodes' positions.
abbrev pub index_for : List RevId → List (ℕ × ℕ)
index_for revs = if nat_lt MOST_WALKED (length revs) && not (falls revs) then noted_from [] 0 revs else []
