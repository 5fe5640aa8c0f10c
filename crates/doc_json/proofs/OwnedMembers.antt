-- The members of a map, in the order of their names.
use Rattle.proof_prelude.proofs.{◌≡◌, List, [], ◌∷◌, String, Global, Less, string_bytes, string_cmp, AllByRecursion, IsStrictlySortedBy, keys_of}
use Rattle.serde_json.specs.View.{members_view}
use Rattle.serde_json.proofs.Views.{Entry}
use Rattle.json_values.specs.{AllBehind}

behind_all : (k : String Global) (es : List Entry) → AllByRecursion (λ y. string_cmp k y ≡ Less) (keys_of es) → AllBehind (string_bytes k) (members_view es)
behind_all k [] h = tt
behind_all k (e ∷ es) h = (h.0, behind_all k es h.1)

-- the names after the first
pub behind_first : (e : Entry) (es : List Entry) → IsStrictlySortedBy string_cmp (keys_of (e ∷ es)) → AllBehind (string_bytes e.0) (members_view es) × IsStrictlySortedBy string_cmp (keys_of es)
behind_first e es h = unfold IsStrictlySortedBy in (behind_all e.0 es h.0, h.1)
