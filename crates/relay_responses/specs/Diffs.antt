-- Defines the missing leaves that a response to `_revs_diff` names, as specified in docs/PROFILE.md, "Responses to the
-- relay".
use Rattle.std.specs.Prelude.{if◌then◌else◌, List, [], ◌∷◌, Option, None, Some, option_map, option_and_then, codes, bytes_eq}
use Rattle.indexmap.specs.IndexMap.{insert_entry}
use Rattle.json.specs.Json.{Json, Members, no_members, member}
use Rattle.json.specs.Find.{as_object, as_str}
use Rattle.relay_core.specs.Messages.{Text, DocView}
use Rattle.relay_core.specs.Leaves.{names, name_all, docs_where}
use Rattle.relay_responses.specs.Read.{items_at, each_item, with_first}

-- ---- named leaves

-- The members `found`, followed by the members of a JSON object. The function `last_members` returns each name once,
-- with the value of the last member that has this name.
abbrev pub last_members : List (Text × Json) → Members → List (Text × Json)
last_members found no_members = found
last_members found (member k j ms) = last_members (insert_entry bytes_eq found k j) ms

abbrev pub doc_of : Text → List Text → DocView
doc_of id revs = (id, revs)

-- The document and the missing leaves that one member of a `_revs_diff` response names. In a `_revs_diff` response, the
-- name of each member is a document id, and the member's value has the missing leaves in the list `missing`.
abbrev pub missing_at : Text × Json → Option DocView
missing_at m = option_map (doc_of m.0) (option_and_then (each_item as_str) (items_at (codes "missing") m.1))

-- The documents and missing leaves that the members of a response name, or `None` if a member does not list leaves.
abbrev pub each_missing : List (Text × Json) → Option (List DocView)
each_missing [] = Some []
each_missing (m ∷ ms) = with_first (missing_at m) (each_missing ms)

abbrev pub named_in : Json → Option (List DocView)
named_in j = option_and_then each_missing (option_map (last_members []) (as_object j))

-- ---- requested leaves

-- The requested leaves that a response names, in the order of the request. The result is `None` if the response names a
-- leaf that was not requested.
abbrev pub only_named : List DocView → List DocView → Option (List DocView)
only_named docs named = if name_all docs named then Some (docs_where (λ id leaf. names named id leaf) docs) else None

abbrev pub diff_in : List DocView → Json → Option (List DocView)
diff_in docs j = option_and_then (only_named docs) (named_in j)
