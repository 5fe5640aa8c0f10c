-- The tasks on lines.
use Rattle.proof_prelude.proofs.{◌≡◌, inl, inr, ℕ, List, ◌++◌, Ok, Err}
use Rattle.line_reader.specs.{Ended, HasPrinted, HasPrintedPart, Kept}
use Rattle.script_engine.specs.{ScriptFault}
use Rattle.couch_journal.specs.Runs.{RunsLines}
use Rattle.couch_journal.specs.declared.ended.Outcome.{Outcome}

pub lines_done : {S : Type 0} (ended : Ended S) (prints : List (List ℕ) → List ℕ) (output : List (List ℕ) → List ℕ → List ℕ) (outcome : List (List ℕ) → List ℕ → Outcome) (all : Type 0) (input text : List ℕ) (state : S) (result : Outcome)
    → ((lines : List (List ℕ)) (rest : List ℕ) → ended lines rest text state → (text ≡ output lines rest) × (result ≡ outcome lines rest)) → all → HasPrinted ended input text state → RunsLines prints output outcome all input text (Ok result)
lines_done ended prints output outcome all input text state result f at (lines, rest, splits, h) = let p = f lines rest h in (at, (lines, rest, splits, p.0, p.1))

pub lines_part : {S : Type 0} (kept : Kept S) (ended : Ended S) (prints : List (List ℕ) → List ℕ) (output : List (List ℕ) → List ℕ → List ℕ) (outcome : List (List ℕ) → List ℕ → Outcome) (all : Type 0) (input text : List ℕ) (fault : ScriptFault)
    → ((lines : List (List ℕ)) (t : List ℕ) (state : S) → kept lines t state → t ≡ prints lines) → ((lines : List (List ℕ)) (rest t : List ℕ) (state : S) → ended lines rest t state → t ≡ output lines rest) → HasPrintedPart kept ended all input text
    → RunsLines prints output outcome all input text (Err fault)
lines_part kept ended prints output outcome all input text fault f g (inl (lines, rest, back, state, e, whole, k)) = inl (lines, rest, back, e, whole, f lines (text ++ back) state k)
lines_part kept ended prints output outcome all input text fault f g (inr (at, (back, state, (lines, rest, splits, h)))) = inr (at, (lines, rest, back, splits, g lines rest (text ++ back) state h))
