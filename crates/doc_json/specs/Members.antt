-- Defines which members of a JSON object have a leading `_` in their names, as specified in docs/PROFILE.md,
-- "Documents" and "What `read_doc` accepts".
use Rattle.std.specs.Prelude.{ℕ, Bool, false, ◌&&◌, ◌||◌, not, List, [], ◌∷◌, codes, if◌then◌else◌}
use Rattle.std.specs.Str.{bytes_eq}
use Rattle.std.specs.List.{list_any}
use Rattle.serde_json.specs.Data.{Members, no_members, member}
use Rattle.doc_json.specs.DocId.{is_special}

-- The members of an object, without members whose names begin with `_`.
abbrev pub plain_members : Members → Members
plain_members no_members = no_members
plain_members (member name d ms) = if is_special name then plain_members ms else member name d (plain_members ms)

-- Whether the name of a member of a JSON object begins with `_`.
abbrev pub has_special : Members → Bool
has_special no_members = false
has_special (member name d ms) = is_special name || has_special ms

-- The names of the special members that a document may have.
abbrev pub special_names : List (List ℕ)
special_names =
    codes "_id" ∷ codes "_rev" ∷ codes "_revisions" ∷ codes "_deleted" ∷ codes "_conflicts" ∷ codes "_deleted_conflicts"
    ∷ codes "_revs_info" ∷ codes "_local_seq" ∷ []

-- Whether a name begins with `_` and is not one of `special_names`.
abbrev pub is_unknown : List ℕ → Bool
is_unknown name = is_special name && not (list_any (bytes_eq name) special_names)

-- Whether a JSON object has a special member that a document may not have.
abbrev pub has_unknown : Members → Bool
has_unknown no_members = false
has_unknown (member name d ms) = is_unknown name || has_unknown ms
