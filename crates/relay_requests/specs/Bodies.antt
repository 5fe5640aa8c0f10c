-- Defines the bodies of requests for leaves, as JSON tokens, as specified in docs/PROFILE.md, "Requests of the relay".
use Rattle.std.specs.Prelude.{List, [], ◌∷◌, ◌++◌, codes}
use Rattle.json.specs.Token.{Token, begin_object, end_object, begin_array, end_array, key, string}
use Rattle.relay_core.specs.Messages.{Text, DocView}

abbrev pub strings : List Text → List Token
strings [] = []
strings (t ∷ ts) = string t ∷ strings ts

-- A document's id, and the list of its leaves, as JSON tokens.
abbrev pub doc_tokens : DocView → List Token
doc_tokens d = key d.0 ∷ begin_array ∷ (strings d.1 ++ end_array ∷ [])

abbrev pub docs_tokens : List DocView → List Token
docs_tokens [] = []
docs_tokens (d ∷ ds) = doc_tokens d ++ docs_tokens ds

-- The body of a `_revs_diff` request. The response to a `_revs_diff` request says which of the given leaves are
-- missing.
abbrev pub diff_tokens : List DocView → List Token
diff_tokens docs = begin_object ∷ (docs_tokens docs ++ end_object ∷ [])

-- ---- leaves to be carried

abbrev pub leaf_tokens : Text → Text → List Token
leaf_tokens id rev = begin_object ∷ key (codes "id") ∷ string id ∷ key (codes "rev") ∷ string rev ∷ end_object ∷ []

abbrev pub leaves_tokens : Text → List Text → List Token
leaves_tokens id [] = []
leaves_tokens id (r ∷ rs) = leaf_tokens id r ++ leaves_tokens id rs

abbrev pub all_leaves_tokens : List DocView → List Token
all_leaves_tokens [] = []
all_leaves_tokens (d ∷ ds) = leaves_tokens d.0 d.1 ++ all_leaves_tokens ds

-- The body that requests the given leaves, each as an object with an id and a revision.
abbrev pub carry_tokens : List DocView → List Token
carry_tokens docs = begin_object ∷ key (codes "docs") ∷ begin_array ∷ (all_leaves_tokens docs ++ end_array ∷ end_object ∷ [])
