-- Defines how one byte of a line of a script's output changes the parser's state, as specified in docs/PROFILE.md,
-- "Lines of documents".
use Rattle.std.specs.Prelude.{ℕ, ◌&&◌, ◌||◌, ◌==◌, nat_le, [], ◌∷◌, Bool, cond, codes}
use Rattle.std.specs.Str.{bytes_eq}
use Rattle.doc_envelope.specs.Texts.{is_json}
use Rattle.response_parser.specs.Wanted.{wants_changes, is_strict}
use Rattle.response_parser.specs.State.{State, more, at, refused, added}
use Rattle.response_parser.specs.declared.place.Place.{Place}
use Rattle.response_parser.specs.declared.place.Place.TheVariants.{Start, Between, Line}
use Rattle.response_parser.specs.declared.place.LinePlace.{LinePlace}
use Rattle.response_parser.specs.declared.place.LinePlace.TheVariants.{Word, Rest, Seq, BeforeId, Id, IdEscape, AfterId, BeforeRev, Rev}
use Rattle.response_parser.specs.declared.place.Refusal.TheVariants.{NotJson, NoAnswer}
use Rattle.response_parser.specs.declared.place.Found.TheVariants as found

-- The parser's state after reading the first byte b of a text in a line. The parser reads the byte b in the state s.
abbrev pub text_begun : LinePlace → State → ℕ → State
text_begun place s b = record s { place = Line place; text = b ∷ [] }

-- ---- any line

abbrev pub is_lower : ℕ → Bool
is_lower b = nat_le 97 b && nat_le b 122

-- The parser's state after a line end. If the input must have a response, but the parser has not read one, the parser
-- returns to its initial place in the grammar.
abbrev pub line_ended : State → State
line_ended s = at (cond (s.some || is_strict s.wanted) Between Start) s

abbrev pub change_begun : State → ℕ → State
change_begun s b = cond (b == 32) (record s { place = Line Seq; text = [] }) (refused NoAnswer s)

abbrev pub is_change : State → Bool
is_change s = wants_changes s.wanted && bytes_eq s.text (codes "change")

-- The parser's state after the first word of a line. If the first word of a line is `refused`, the parser counts the
-- line as a skipped entry.
abbrev pub word_passed : State → State
word_passed s = record s { passed = cond (bytes_eq s.text (codes "refused")) (more s.passed) s.passed }

abbrev pub word_ended : State → ℕ → State
word_ended s b =
    cond (is_change s) (change_begun s b)
    (cond (b == 10) (line_ended (word_passed s)) (at (Line Rest) (word_passed s)))

abbrev pub in_word : State → ℕ → State
in_word s b = cond (b == 10 || b == 32) (word_ended s b) (added b s)

abbrev pub in_rest : State → ℕ → State
in_rest s b = cond (b == 10) (line_ended s) s

-- ---- changes

abbrev pub is_digit : ℕ → Bool
is_digit b = nat_le 48 b && nat_le b 57

abbrev pub in_seq : State → ℕ → State
in_seq s b =
    cond (is_digit b) s (cond (b == 32) (at (Line BeforeId) s) (refused NoAnswer s))

abbrev pub before_id : State → ℕ → State
before_id s b = cond (b == 34) (text_begun Id s b) (refused NoAnswer s)

abbrev pub id_ended : State → State
id_ended s = cond (is_json s.text) (record s { place = Line AfterId; found = found.Id }) (refused NotJson s)

abbrev pub in_id : State → ℕ → State
in_id s b = cond (b == 34) (id_ended (added b s)) (cond (b == 92) (at (Line IdEscape) (added b s)) (added b s))

abbrev pub in_id_escape : State → ℕ → State
in_id_escape s b = at (Line Id) (added b s)

abbrev pub after_id : State → ℕ → State
after_id s b = cond (b == 32) (at (Line BeforeRev) s) (refused NoAnswer s)

-- Whether a byte may be in a revision: an ASCII letter, a digit, a hyphen, an underscore or a period.
abbrev pub is_rev_byte : ℕ → Bool
is_rev_byte b = is_digit b || is_lower b || nat_le 65 b && nat_le b 90 || b == 45 || b == 95 || b == 46

-- The parser's state after the first byte of a revision in a `change` line. The parser stores a quotation mark before
-- the revision, because it reports revisions as JSON strings.
abbrev pub before_rev : State → ℕ → State
before_rev s b = cond (is_rev_byte b) (record s { place = Line Rev; text = 34 ∷ b ∷ [] }) (refused NoAnswer s)

abbrev pub rev_ended : Place → State → State
rev_ended place s = record (added 34 s) { place = place; found = found.Rev }

abbrev pub in_rev : State → ℕ → State
in_rev s b =
    cond (is_rev_byte b) (added b s)
    (cond (b == 44) (rev_ended (Line BeforeRev) s) (cond (b == 10) (rev_ended Between s) (refused NoAnswer s)))

-- ---- a byte

abbrev pub in_line : LinePlace → State → ℕ → State
in_line Word s b = in_word s b
in_line Rest s b = in_rest s b
in_line Seq s b = in_seq s b
in_line BeforeId s b = before_id s b
in_line Id s b = in_id s b
in_line IdEscape s b = in_id_escape s b
in_line AfterId s b = after_id s b
in_line BeforeRev s b = before_rev s b
in_line Rev s b = in_rev s b
