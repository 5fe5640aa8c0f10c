-- Defines the grammar of a script's output, and the document ids and revisions in its `change` lines, as specified in
-- docs/PROFILE.md, "Lines of documents".
use Rattle.std.specs.Prelude.{◌≡◌, ℕ, ◌||◌, ◌==◌, List, [], ◌∷◌, ◌++◌, Bool, true, false, not, codes}
use Rattle.std.specs.List.{list_all}
use Rattle.std.specs.Str.{bytes_eq}
use Rattle.doc_envelope.specs.Texts.{is_space, is_json, EndsString}
use Rattle.response_parser.specs.Lines.{is_lower, is_digit, is_rev_byte}
use Rattle.response_parser.specs.Reading.{Piece}
use Rattle.response_parser.specs.Grammar.{IsPlainDocument}
use Rattle.response_parser.specs.LineGrammar.{InOneLine}
use Rattle.response_parser.specs.declared.place.Found.TheVariants.{Id, Rev}

-- Revisions with commas between them, up to the line end. Each revision is reported in quotation marks.
pub data AreRevs : List ℕ → List Piece → Type 0 where
  last_rev : {b : ℕ} (r : List ℕ) → is_rev_byte b ≡ true → list_all is_rev_byte r ≡ true
      → AreRevs (b ∷ (r ++ 10 ∷ [])) ((Rev, 34 ∷ b ∷ (r ++ 34 ∷ [])) ∷ [])
  rev : {b : ℕ} (r : List ℕ) {more : List ℕ} {ps : List Piece} → is_rev_byte b ≡ true → list_all is_rev_byte r ≡ true → AreRevs more ps
      → AreRevs (b ∷ (r ++ 44 ∷ more)) ((Rev, 34 ∷ b ∷ (r ++ 34 ∷ [])) ∷ ps)

-- Whether a byte is neither a blank nor a line end.
abbrev pub is_word_byte : ℕ → Bool
is_word_byte b = not (b == 10 || b == 32)

-- The text of a script's output, which consists of lines with line ends, and the text's items. The items are the
-- document ids and the revisions in the `change` lines, in the order of the lines.
pub data AreChanges : List ℕ → List Piece → Type 0 where
  none : AreChanges [] []
  empty : {b : ℕ} {t : List ℕ} {ps : List Piece} → is_space b ≡ true → AreChanges t ps → AreChanges (b ∷ t) ps
  change : (n : List ℕ) {k r t : List ℕ} {ps qs : List Piece} → list_all is_digit n ≡ true → EndsString k → is_json (34 ∷ k) ≡ true
      → AreRevs r ps → AreChanges t qs
      → AreChanges (codes "change " ++ (n ++ (32 ∷ 34 ∷ (k ++ (32 ∷ (r ++ t)))))) ((Id, 34 ∷ k) ∷ (ps ++ qs))
  -- A document or a log in a script's output.
  object : {o u t : List ℕ} {ps : List Piece} → IsPlainDocument o u → AreChanges t ps → AreChanges (o ++ t) ps
  -- A line of a script's output that begins with a lower-case letter, and whose first word is not `change`.
  word : {b : ℕ} (w : List ℕ) {t : List ℕ} {ps : List Piece} → is_lower b ≡ true → is_space b ≡ false → list_all is_word_byte w ≡ true
      → bytes_eq (b ∷ w) (codes "change") ≡ false → AreChanges t ps → AreChanges (b ∷ (w ++ 10 ∷ t)) ps
  words : {b : ℕ} (w x : List ℕ) {t : List ℕ} {ps : List Piece} → is_lower b ≡ true → is_space b ≡ false → list_all is_word_byte w ≡ true
      → bytes_eq (b ∷ w) (codes "change") ≡ false → InOneLine x → AreChanges t ps
      → AreChanges (b ∷ (w ++ (32 ∷ (x ++ 10 ∷ t)))) ps

-- The output of a script, with or without the last line end, and the document ids and revisions in its `change` lines.
abbrev pub IsChangeScript : List ℕ → List Piece → Type 0
IsChangeScript text held = AreChanges (text ++ 10 ∷ []) held
