-- This file defines the envelope of a document, as specified in docs/PROFILE.md, "Documents in envelopes".
use Rattle.std.specs.Prelude.{ℕ, ◌&&◌, ◌||◌, List, [], ◌∷◌, ◌++◌, Bool, true, false, not, cond, codes, Option, Some, None, option_map, option_and_then, is_some}
use Rattle.std.specs.List.{filter}
use Rattle.std.specs.Str.{is_utf8, bytes_eq}
use Rattle.json.specs.Json.{Json, null, boolean, number, string, array, object, Members as JsonMembers, no_members, member, document}
use Rattle.json.specs.Print.{quoted}
use Rattle.json.specs.Find.{as_str, as_bool}
use Rattle.doc_envelope.specs.Texts.{is_json}
use Rattle.doc_envelope.specs.Members.{is_blank, members_of, joined, object_of}
use Rattle.doc_envelope.specs.Names.{has_name, value_of}

-- In an envelope, the name of the member with the wrapped members.
abbrev pub whole_name : List ℕ
whole_name = codes "\"whole\""

-- ---- wrapping

-- Whether a member of a document stays outside of the string in the envelope's member `whole`.
abbrev pub stays : List ℕ → Bool
stays m =
    has_name m (codes "\"_id\"") || has_name m (codes "\"_rev\"") || has_name m (codes "\"_revisions\"")
    || has_name m (codes "\"_deleted\"")

abbrev pub goes : List ℕ → Bool
goes m = not (stays m)

-- The member `whole` of an envelope, as a list of one item. If the envelope wraps no members, the list is empty. The
-- value of the member `whole` is a string: the texts of the members that the envelope wraps, separated by commas.
abbrev pub whole_of : List (List ℕ) → List (List ℕ)
whole_of [] = []
whole_of (m ∷ ms) = (whole_name ++ 58 ∷ quoted (joined (m ∷ ms))) ∷ []

abbrev pub envelope_of : List ℕ → List ℕ
envelope_of x = object_of (filter stays (members_of x) ++ whole_of (filter goes (members_of x)))

-- Whether an envelope may have a member with the given name and value. An envelope may have `_id`, `_rev` and
-- `_revisions` with any value, `_deleted` with a Boolean, and `whole` with a string.
abbrev pub may_stand : List ℕ → Json → Bool
may_stand name j =
    cond (bytes_eq name (codes "_id") || bytes_eq name (codes "_rev") || bytes_eq name (codes "_revisions")) true
    (cond (bytes_eq name (codes "_deleted")) (is_some (as_bool j)) (cond (bytes_eq name (codes "whole")) (is_some (as_str j)) false))

abbrev pub all_may_stand : JsonMembers → Bool
all_may_stand no_members = true
all_may_stand (member name j ms) = may_stand name j && all_may_stand ms

abbrev pub is_envelope_value : Option Json → Bool
is_envelope_value (Some (object ms)) = all_may_stand ms
is_envelope_value (Some null) = false
is_envelope_value (Some (boolean b)) = false
is_envelope_value (Some (number s)) = false
is_envelope_value (Some (string s)) = false
is_envelope_value (Some (array js)) = false
is_envelope_value None = false

-- Whether a text is an envelope.
abbrev pub is_envelope : List ℕ → Bool
is_envelope t = is_utf8 t && is_envelope_value (document t)

abbrev pub is_enveloped : List ℕ → Bool
is_enveloped x = is_utf8 (joined (filter goes (members_of x))) && is_envelope (envelope_of x)

abbrev pub enveloped : List ℕ → Option (List ℕ)
enveloped x = cond (is_enveloped x) (Some (envelope_of x)) None

-- ---- unwrapping

-- The given text, or `None` if the text is blank.
abbrev pub if_any : List ℕ → Option (List ℕ)
if_any t = cond (is_blank t) None (Some t)

-- The value of the JSON string in the text t, or `None` if t is not a JSON string in UTF-8.
abbrev pub string_of : List ℕ → Option (List ℕ)
string_of t = cond (is_utf8 t) (option_and_then as_str (document t)) None

-- The text that the member m of an envelope adds to the document. A member named `whole` adds the content of its
-- string, and any other member adds itself. If the value of a member `whole` is not a string, or the string is blank,
-- the result is `None`.
abbrev pub unfolded_member : List ℕ → Option (List ℕ)
unfolded_member m = cond (has_name m whole_name) (option_and_then if_any (string_of (value_of m whole_name))) (Some m)

abbrev pub unfolded_members : List (List ℕ) → Option (List (List ℕ))
unfolded_members [] = Some []
unfolded_members (m ∷ ms) = option_and_then (λ t. option_map (λ ts. t ∷ ts) (unfolded_members ms)) (unfolded_member m)

abbrev pub if_json : List ℕ → Option (List ℕ)
if_json t = cond (is_json t) (Some t) None

abbrev pub unfolded : List ℕ → Option (List ℕ)
unfolded x = option_and_then (λ ts. if_json (object_of ts)) (unfolded_members (members_of x))
