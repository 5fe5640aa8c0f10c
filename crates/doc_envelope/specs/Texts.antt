-- Defines JSON texts as lists of bytes, as specified in docs/PROFILE.md, "CouchDB's answers". A text is JSON if the
-- grammar of the crate `json` accepts it.
use Rattle.std.specs.Prelude.{◌≡◌, ℕ, ◌+◌, ◌<◌, ◌&&◌, ◌||◌, ◌==◌, List, [], ◌∷◌, ◌++◌, Bool, true, false, is_some}
use Rattle.std.specs.List.{list_all}
use Rattle.std.specs.Str.{is_utf8}
use Rattle.json.specs.Json.{document}

-- Whether a byte is JSON white space.
abbrev pub is_space : ℕ → Bool
is_space b = b == 32 || b == 9 || b == 10 || b == 13

abbrev pub Spaces : List ℕ → Type 0
Spaces s = list_all is_space s ≡ true

-- Whether a text is JSON in UTF-8.
abbrev pub is_json : List ℕ → Bool
is_json text = is_utf8 text && is_some (document text)

-- The text of a JSON string after its opening quotation mark, up to its closing quotation mark.
pub data EndsString : List ℕ → Type 0 where
  ends : EndsString (34 ∷ [])
  plain : {b : ℕ} {t : List ℕ} → (b == 34) ≡ false → (b == 92) ≡ false → EndsString t → EndsString (b ∷ t)
  escaped : {b : ℕ} {t : List ℕ} → EndsString t → EndsString (92 ∷ b ∷ t)

-- The byte b is not white space, a quotation mark or a bracket. If no bracket is open before b (`nesting` is 0), b is
-- not a comma either.
pub record IsPlain (nesting b : ℕ) : Type 0 where
  pub space : is_space b ≡ false
  pub comma : (nesting == 0 && (b == 44 || b == 125)) ≡ false
  pub quote : (b == 34) ≡ false
  pub opens : (b == 123 || b == 91) ≡ false
  pub closes : (b == 125 || b == 93) ≡ false

-- In the text t, all strings and all brackets are closed. The text t opens a bracket only if fewer than 128 brackets
-- are open, including the n brackets that were opened before t. The text u is the text t with a blank for each byte of
-- white space outside of strings.
pub data Closed : ℕ → List ℕ → List ℕ → Type 0 where
  nothing : {n : ℕ} → Closed n [] []
  space : {n b : ℕ} {t u : List ℕ} → is_space b ≡ true → Closed n t u → Closed n (b ∷ t) (32 ∷ u)
  other : {n b : ℕ} {t u : List ℕ} → IsPlain n b → Closed n t u → Closed n (b ∷ t) (b ∷ u)
  string : {n : ℕ} {q t u : List ℕ} → EndsString q → Closed n t u → Closed n (34 ∷ (q ++ t)) (34 ∷ (q ++ u))
  object : {n : ℕ} {m v t u : List ℕ} → n < 128 → Closed (n + 1) m v → Closed n t u
      → Closed n (123 ∷ (m ++ 125 ∷ t)) (123 ∷ (v ++ 125 ∷ u))
  list : {n : ℕ} {m v t u : List ℕ} → n < 128 → Closed (n + 1) m v → Closed n t u
      → Closed n (91 ∷ (m ++ 93 ∷ t)) (91 ∷ (v ++ 93 ∷ u))
