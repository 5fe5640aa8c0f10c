-- A run of drawing, by the open document only.
use Rattle.proof_prelude.proofs.{ℕ, List, [], ◌∷◌, ◌++◌, ap, Bool, Ok}
use Rattle.script_engine.specs.{Answering, MayTell, Told, gave_up, in_full, served_only, AnswersCut, AnswersFirst, IsAnswered, IsAnsweredSoFar, IsToldUntil, ScriptFault, Run, Step, blank, served}
use Rattle.script_engine.specs.declared.fault.ScriptFault.TheVariants.{Read, Write, Memory, Cut}

module _ {S T : Type 0} (answers : Answering S (List ℕ)) (others : Answering T (List ℕ)) (view : S → T) (seen : (old : S) (line : List ℕ) (told : Told) (new : S) → answers old line told new → others (view old) line told (view new)) where
  telling : (old new : S) (line : List ℕ) (told : Told) → MayTell answers old line told new → MayTell others (view old) line told (view new)
  telling old new line told (in_full h) = in_full (seen old line told new h)
  telling old new line told gave_up = gave_up
  telling old new line told (served_only text h) = served_only text (seen old line _ new h)

  step : (old new : S) (line : List ℕ) (told : Told) → Step answers old line told new → Step others (view old) line told (view new)
  step old new line told (blank h) = blank h
  step old new line told (served h k) = served h (telling old new line told k)

  run : (old new : S) (lines : List (List ℕ)) (told : List Told) → Run answers old lines told new → Run others (view old) lines told (view new)
  run old new [] [] h = ap view h
  run old new (line ∷ lines) (text ∷ told) h = (view h.0, step old h.0 line text h.1, run h.0 new lines told h.2)
  run old new [] (text ∷ told) h = absurd h
  run old new (line ∷ lines) [] h = absurd h

  pub seen_as : (old new : S) (input : List ℕ) (clean : Bool) (text : List ℕ) → IsAnswered answers old input clean text new → IsAnswered others (view old) input clean text (view new)
  seen_as old new input clean text h = (h.0, run old new _ h.0 h.1, h.2, h.3)

  so_far_as : (old : S) (input text : List ℕ) → IsAnsweredSoFar answers old input text → IsAnsweredSoFar others (view old) input text
  so_far_as old input text h = (h.0, h.1, view h.2, seen_as old h.2 input h.0 (text ++ h.1) h.3)

  first_as : (old : S) (input text : List ℕ) → AnswersFirst answers old input text → AnswersFirst others (view old) input text
  first_as old input text (lines, rest, told, new, cut, h, is) = (lines, rest, told, view new, cut, run old new lines told h, is)

  cut_as : (old : S) (input text : List ℕ) → AnswersCut answers old input text → AnswersCut others (view old) input text
  cut_as old input text (lines, line, rest, told, mid, begun, more, new, cut, h, one, is, some, other) =
      (lines, line, rest, told, view mid, begun, more, view new, cut, run old mid lines told h, step mid new line (Ok (begun ++ more)) one, is, some, other)

  pub until_as : (fault : ScriptFault) (old : S) (input text : List ℕ) → IsToldUntil fault answers old input text → IsToldUntil fault others (view old) input text
  until_as Read old input text h = (so_far_as old input text h.0, first_as old input text h.1)
  until_as Write old input text h = so_far_as old input text h
  until_as Memory old input text h = (so_far_as old input text h.0, first_as old input text h.1)
  until_as Cut old input text h = (so_far_as old input text h.0, cut_as old input text h.1)
