-- Defines how one byte of a list of missing revisions changes the parser's state, as specified in docs/PROFILE.md,
-- "CouchDB's answers".
use Rattle.std.specs.Prelude.{ℕ, ◌==◌, [], ◌∷◌, cond}
use Rattle.doc_envelope.specs.Texts.{is_space, is_json}
use Rattle.response_parser.specs.State.{State, at, refused, added}
use Rattle.response_parser.specs.declared.place.Place.TheVariants.{AfterMember, Revs}
use Rattle.response_parser.specs.declared.place.RevPlace.{RevPlace}
use Rattle.response_parser.specs.declared.place.RevPlace.TheVariants.{List as RevList, First, Next, Rev, Escape, Behind}
use Rattle.response_parser.specs.declared.place.Refusal.TheVariants.{NotJson, NoAnswer}
use Rattle.response_parser.specs.declared.place.Found.TheVariants as found

abbrev pub at_revs : State → ℕ → State
at_revs s b = cond (is_space b) s (cond (b == 91) (at (Revs First) s) (refused NoAnswer s))

abbrev pub at_next_rev : State → ℕ → State
at_next_rev s b =
    cond (is_space b) s (cond (b == 34) (record s { place = Revs Rev; text = b ∷ [] }) (refused NoAnswer s))

abbrev pub at_first_rev : State → ℕ → State
at_first_rev s b = cond (b == 93) (at AfterMember s) (at_next_rev s b)

abbrev pub missing_ended : State → State
missing_ended s = cond (is_json s.text) (record s { place = Revs Behind; found = found.Rev }) (refused NotJson s)

abbrev pub in_missing : State → ℕ → State
in_missing s b =
    cond (b == 34) (missing_ended (added b s)) (cond (b == 92) (at (Revs Escape) (added b s)) (added b s))

abbrev pub in_missing_escape : State → ℕ → State
in_missing_escape s b = at (Revs Rev) (added b s)

abbrev pub after_missing : State → ℕ → State
after_missing s b =
    cond (is_space b) s (cond (b == 44) (at (Revs Next) s) (cond (b == 93) (at AfterMember s) (refused NotJson s)))

abbrev pub in_revs : RevPlace → State → ℕ → State
in_revs RevList s b = at_revs s b
in_revs First s b = at_first_rev s b
in_revs Next s b = at_next_rev s b
in_revs Rev s b = in_missing s b
in_revs Escape s b = in_missing_escape s b
in_revs Behind s b = after_missing s b
