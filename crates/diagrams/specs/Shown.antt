-- This file defines how hidden characters of an input text, and in SVG also markup characters, are escaped, as
-- specified in docs/PROFILE.md, "Pictures".
use Rattle.std.specs.Prelude.{◌≡◌, ℕ, ◌==◌, ◌||◌, List, [], ◌∷◌, ◌++◌, Bool, true, false, if◌then◌else◌, codes}
use Rattle.std.specs.List.{flat_map}
use Rattle.visible_text.specs.Visible.{IsSeen, escape_of, is_hidden}
use Rattle.diagrams.specs.declared.form.Form.{Form}
use Rattle.diagrams.specs.declared.form.Form.TheVariants.{Text, Svg}

-- The XML entity of a markup character, or the character itself.
abbrev pub entity_of : ℕ → List ℕ
entity_of c =
    if c == 38 then codes "&amp;" else if c == 60 then codes "&lt;" else if c == 62 then codes "&gt;"
    else if c == 34 then codes "&quot;" else c ∷ []

abbrev pub seen_char : Form → ℕ → List ℕ
seen_char Text c = c ∷ []
seen_char Svg c = entity_of c

abbrev pub shown_char : Form → ℕ → List ℕ
shown_char form c = if is_hidden c then escape_of c else seen_char form c

abbrev pub shown : Form → List ℕ → List ℕ
shown form cs = flat_map (shown_char form) cs

-- Whether a character is `&`, `<`, `>` or `"`.
abbrev pub is_markup : ℕ → Bool
is_markup c = c == 38 || c == 60 || c == 62 || c == 34

-- A text is escaped if it has no hidden characters (`is_hidden`), and has `&`, `<`, `>` and `"` only as XML entities.
pub data IsEscaped : List ℕ → Type 0 where
  done : IsEscaped []
  plain : {c : ℕ} {cs : List ℕ} → is_hidden c ≡ false → is_markup c ≡ false → IsEscaped cs → IsEscaped (c ∷ cs)
  named : (c : ℕ) {cs : List ℕ} → is_markup c ≡ true → IsEscaped cs → IsEscaped (entity_of c ++ cs)

-- A text is safe in a picture if it has no hidden characters (`is_hidden`). In an SVG picture, each markup character of
-- a safe text is written as an XML entity.
abbrev pub IsSafe : Form → List ℕ → Type 0
IsSafe Text cs = IsSeen cs
IsSafe Svg cs = IsEscaped cs
