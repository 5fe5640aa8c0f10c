-- Defines how an envelope's text is built from a document's members, and how a document's text is built from an
-- envelope's members.
use Rattle.std.specs.Prelude.{ℕ, ◌==◌, nat_lt, length, get_or, drop, ◌+◌, List, [], ◌∷◌, ◌++◌, cond, Option, Some, option_map, option_and_then}
use Rattle.json.specs.Print.{quoted}
use Rattle.doc_envelope.specs.Members.{is_blank}
use Rattle.doc_envelope.specs.Envelopes.{whole_name, stays, unfolded_member}

-- The text t (the beginning of an object), followed by the member m. A comma precedes m if t already has a member.
abbrev pub added : List ℕ → List ℕ → List ℕ
added t m = cond (nat_lt 1 (length t)) (t ++ 44 ∷ m) (t ++ m)

-- The new content of an envelope's string `whole`: the old content h, followed by the member m. If h is not empty, a
-- comma separates h from m.
abbrev pub held_with : List ℕ → List ℕ → List ℕ
held_with h m = cond (length h == 0) (h ++ m) (h ++ 44 ∷ m)

abbrev pub text_with : List ℕ → List ℕ → List ℕ
text_with t m = cond (is_blank m) t (cond (stays m) (added t m) t)

abbrev pub held_by : List ℕ → List ℕ → List ℕ
held_by h m = cond (is_blank m) h (cond (stays m) h (held_with h m))

abbrev pub taken_with : List ℕ → List ℕ → Option (List ℕ)
taken_with t m = cond (is_blank m) (Some t) (option_map (added t) (unfolded_member m))

-- The rest of a text after a member of n bytes and the comma that follows the member.
abbrev pub behind_comma : List ℕ → ℕ → List ℕ
behind_comma t n = cond (get_or t n 0 == 44) (drop (n + 1) t) []

-- ---- in order

unfoldable pub texts_with : List ℕ → List (List ℕ) → List ℕ
texts_with t [] = t
texts_with t (m ∷ ms) = texts_with (text_with t m) ms

unfoldable pub helds_by : List ℕ → List (List ℕ) → List ℕ
helds_by h [] = h
helds_by h (m ∷ ms) = helds_by (held_by h m) ms

unfoldable pub all_taken : List ℕ → List (List ℕ) → Option (List ℕ)
all_taken t [] = Some t
all_taken t (m ∷ ms) = option_and_then (λ u. all_taken u ms) (taken_with t m)

-- The text of an envelope without its closing brace. If h, the text of the wrapped members, is empty, the result is the
-- text t. If h is not empty, the result is t, followed by a member `whole` with the string h.
abbrev pub with_held : List ℕ → List ℕ → List ℕ
with_held t h = cond (length h == 0) t (added t (whole_name ++ 58 ∷ []) ++ quoted h)
