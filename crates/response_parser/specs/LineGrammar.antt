-- Defines the grammar of a script's output, and the documents in the output, as specified in docs/PROFILE.md, "Lines of
-- documents".
use Rattle.std.specs.Prelude.{◌≡◌, ℕ, ◌==◌, List, [], ◌∷◌, ◌++◌, true, false, not}
use Rattle.std.specs.List.{list_all}
use Rattle.doc_envelope.specs.Texts.{is_space}
use Rattle.response_parser.specs.Lines.{is_lower}
use Rattle.response_parser.specs.Reading.{Piece}
use Rattle.response_parser.specs.Grammar.{IsDocument}
use Rattle.response_parser.specs.declared.place.Wanted.{Wanted}

-- The text t does not have a line end.
abbrev pub InOneLine : List ℕ → Type 0
InOneLine t = list_all (λ b. not (b == 10)) t ≡ true

-- Lines of a script's output with their line ends, and the documents in the lines.
pub data AreLines (wanted : Wanted) : List ℕ → List Piece → Type 0 where
  no_lines : AreLines wanted [] []
  -- An empty line, or white space before a line.
  blank : {b : ℕ} {t : List ℕ} {ps : List Piece} → is_space b ≡ true → AreLines wanted t ps → AreLines wanted (b ∷ t) ps
  -- A document or a log in a script's output.
  document : {o t : List ℕ} {ps qs : List Piece} → IsDocument wanted o ps → AreLines wanted t qs → AreLines wanted (o ++ t) (ps ++ qs)
  -- A line of a script's output that begins with a lower-case letter.
  answer : {b : ℕ} (x : List ℕ) {t : List ℕ} {ps : List Piece} → is_lower b ≡ true → is_space b ≡ false → InOneLine x → AreLines wanted t ps
      → AreLines wanted (b ∷ (x ++ 10 ∷ t)) ps

-- The output of a script, with or without the last line end, and the documents in the output.
abbrev pub IsScript : Wanted → List ℕ → List Piece → Type 0
IsScript wanted text held = AreLines wanted (text ++ 10 ∷ []) held
