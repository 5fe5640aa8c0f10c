-- A script that was run on existing databases, and the names of errors.
use Rattle.proof_prelude.proofs.{◌≡◌, ◌≤◌, ℕ, List, length, Bool, Option, Result, Ok, Err, subst, arith, IfOk, IfErr, Appends}
use Rattle.script_engine.specs.{IsFaultOf, IsToldUntil, AnswersEnded, IsAnswered, ScriptFault}
use Rattle.script_engine.specs.declared.fault.ScriptFault.TheVariants.{Read}
use Rattle.script_databases.specs.{State, name_of, Refusal}
use Rattle.script_databases.specs.declared.refusal.Refusal.TheVariants as whys
use Rattle.commands.specs.{LinesAnswer, TrustedLines}
use Rattle.commands.proofs.trust.Lines.{answered_known, until_known}

module _ (old s : State) (given : List ℕ → Type 0) (h h' : Option (List ℕ)) (is : old ≡ s) where
  -- the final state is some state
  pub some_trust : (new : State) (r : Result Bool ScriptFault) → IfOk r (λ clean. (input : List ℕ) × (text : List ℕ) × given input × Appends h h' text × IsAnswered TrustedLines old input clean text new)
      → IfOk r (λ clean. (input : List ℕ) × (text : List ℕ) × (state : State) × given input × Appends h h' text × IsAnswered TrustedLines s input clean text state)
  some_trust new (Ok clean) (input, text, gives, written, answered) = (input, text, new, gives, written, subst (λ z. IsAnswered TrustedLines z input clean text new) is answered)
  some_trust new (Err fault) x = tt

  pub some_state : (new : State) (r : Result Bool ScriptFault) → IfOk r (λ clean. (input : List ℕ) × (text : List ℕ) × given input × Appends h h' text × IsAnswered TrustedLines old input clean text new)
      → IfOk r (λ clean. (input : List ℕ) × (text : List ℕ) × (state : State) × given input × Appends h h' text × IsAnswered LinesAnswer s input clean text state)
  some_state new (Ok clean) (input, text, gives, written, answered) = (input, text, new, gives, written, subst (λ z. IsAnswered LinesAnswer z input clean text new) is (answered_known old input clean text new answered))
  some_state new (Err fault) x = tt

  -- the error concerns the same initial state
  pub until_trust : (x : Result Bool ScriptFault) → IfErr x (λ fault. (input : List ℕ) × (text : List ℕ) × given input × Appends h h' text × IsToldUntil fault TrustedLines old input text)
      → IfErr x (λ fault. (input : List ℕ) × (text : List ℕ) × given input × Appends h h' text × IsToldUntil fault TrustedLines s input text)
  until_trust (Ok clean) x = tt
  until_trust (Err fault) (input, text, gives, written, answered) = (input, text, gives, written, subst (λ z. IsToldUntil fault TrustedLines z input text) is answered)

  module _ (k k' r r' w w' : ℕ) where
    pub same_trust : (x : Result Bool ScriptFault) → IfErr x (λ fault. (input : List ℕ) × (text : List ℕ) × given input × Appends h h' text × IsToldUntil fault TrustedLines old input text × IsFaultOf fault k k' r r' w w')
        → IfErr x (λ fault. (input : List ℕ) × (text : List ℕ) × given input × Appends h h' text × IsToldUntil fault TrustedLines s input text)
    same_trust (Ok clean) x = tt
    same_trust (Err fault) (input, text, gives, written, answered, of) = (input, text, gives, written, subst (λ z. IsToldUntil fault TrustedLines z input text) is answered)

    pub same_start : (x : Result Bool ScriptFault) → IfErr x (λ fault. (input : List ℕ) × (text : List ℕ) × given input × Appends h h' text × IsToldUntil fault TrustedLines old input text × IsFaultOf fault k k' r r' w w')
        → IfErr x (λ fault. (input : List ℕ) × (text : List ℕ) × given input × Appends h h' text × IsToldUntil fault LinesAnswer s input text × IsFaultOf fault k k' r r' w w')
    same_start (Ok clean) x = tt
    same_start (Err fault) (input, text, gives, written, answered, of) = (input, text, gives, written, subst (λ z. IsToldUntil fault LinesAnswer z input text) is (until_known fault old input text answered), of)

  -- so does the output of all complete lines
  pub some_end : (new : State) (r : Result Bool ScriptFault) → IfErr r (λ fault. fault ≡ Read → (input : List ℕ) × (text : List ℕ) × given input × Appends h h' text × AnswersEnded TrustedLines old input text new)
      → IfErr r (λ fault. fault ≡ Read → (input : List ℕ) × (text : List ℕ) × (state : State) × given input × Appends h h' text × AnswersEnded TrustedLines s input text state)
  some_end new (Ok clean) x = tt
  some_end new (Err fault) x = λ read. let y = x read in (y.0, y.1, new, y.2, y.3, subst (λ z. AnswersEnded TrustedLines z y.0 y.1 new) is y.4)

-- an error name is short
pub name_short : (r : Refusal) → length (name_of r) ≤ 64
name_short whys.BadLine = omega arith
name_short refusal = omega arith
