-- Defines the parts into which the lines of an input are split. A limit is a part's maximum number of bytes, and its
-- maximum number of lines.
use Rattle.std.specs.Prelude.{◌≡◌, ◌+◌, ℕ, Bool, false, ◌&&◌, ◌||◌, nat_eq, nat_le, nat_lt, if◌then◌else◌, is_none, List, [], ◌∷◌, ◌++◌, length, flat_map, fold, codes, decimal, Option}
use Rattle.line_reader.specs.Lines.{joined}
use Rattle.journal_tasks.specs.Counting.{IsCounting, wrong_line}
use Rattle.journal_tasks.specs.declared.parts.Parts.{Parts}

-- Whether a part of `lines` lines and `bytes` bytes has space for one more line, which has `size` bytes before its line
-- end. A part without lines has space for every line.
abbrev pub has_space : ℕ × ℕ → ℕ → ℕ → ℕ → Bool
has_space limit lines bytes size = nat_eq lines 0 || nat_lt lines limit.1 && nat_le (bytes + size + 1) limit.0

-- Whether a part that has the lines `part` has space for the line `line`.
abbrev pub fits : ℕ × ℕ → List (List ℕ) → List ℕ → Bool
fits limit part line = has_space limit (length part) (length (joined part)) (length line)

-- The parts of an input after the line `line` is added. Before the line is added, `parts` has the complete parts and
-- the last part. If the line fits into the last part, the line is appended to this part. If the line does not fit, the
-- last part is complete, and the line begins a new part.
abbrev pub with_line : ℕ × ℕ → List (List (List ℕ)) × List (List ℕ) → List ℕ → List (List (List ℕ)) × List (List ℕ)
with_line limit parts line = if fits limit parts.1 line then (parts.0, parts.1 ++ line ∷ []) else (parts.0 ++ parts.1 ∷ [], line ∷ [])

-- The parts into which an input with the given lines is split: the complete parts, and the last part.
abbrev pub split : ℕ × ℕ → List (List ℕ) → List (List (List ℕ)) × List (List ℕ)
split limit lines = fold (with_line limit) ([], []) lines

-- The text that is printed for a part that has `lines` lines and the bytes `bytes`: the number of lines, the number of
-- bytes, and then the bytes.
abbrev pub part_text : ℕ → List ℕ → List ℕ
part_text lines bytes = codes "part " ++ decimal lines ++ codes " " ++ decimal (length bytes) ++ codes "\n" ++ bytes

-- The printed text of an input's part, given the lines of the part.
abbrev pub printed_part : List (List ℕ) → List ℕ
printed_part part = part_text (length part) (joined part)

-- The text that is printed before the end of the input: the complete parts.
abbrev pub complete_text : ℕ × ℕ → List (List ℕ) → List ℕ
complete_text limit lines = flat_map printed_part (split limit lines).0

-- The text that is printed for the last part. The last part has `lines` lines, and consists of the bytes `bytes`. A
-- part without lines is not printed.
abbrev pub last_text : ℕ → List ℕ → List ℕ
last_text lines bytes = if nat_eq lines 0 then [] else part_text lines bytes

-- The number of the last line, if the last line has no line end.
abbrev pub unended_line : List (List ℕ) → List ℕ → Option ℕ
unended_line lines rest = wrong_line (λ line. false) lines rest

-- The output for the complete input. If the last line has no line end, the last part is not printed.
abbrev pub parts_text : ℕ × ℕ → List (List ℕ) → List ℕ → List ℕ
parts_text limit lines rest =
    complete_text limit lines
    ++ (if is_none (unended_line lines rest) then last_text (length (split limit lines).1) (joined (split limit lines).1) else [])

-- A task has read the given lines, has printed the complete parts, and has stored the last part.
pub record IsSplitting (limit : ℕ × ℕ) (lines : List (List ℕ)) (text : List ℕ) (parts : Parts) : Type 0 where
  pub counting : IsCounting (λ line. false) lines parts.count
  pub most_bytes_is : parts.most_bytes ≡ limit.0
  pub most_lines_is : parts.most_lines ≡ limit.1
  pub lines_are : parts.lines ≡ length (split limit lines).1
  pub part_is : parts.part.items ≡ joined (split limit lines).1
  pub text_is : text ≡ complete_text limit lines

-- A task has read the complete input: the output has all parts, unless the last line has no line end.
pub record HasSplit (limit : ℕ × ℕ) (lines : List (List ℕ)) (rest text : List ℕ) (parts : Parts) : Type 0 where
  pub text_is : text ≡ parts_text limit lines rest
  pub wrong : parts.count.wrong ≡ unended_line lines rest
