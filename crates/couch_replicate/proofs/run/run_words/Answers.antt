use Rattle.proof_prelude.proofs.{◌≡◌, ℕ, List, Bool, Option, Result, Ok, Err, IfOk, IfErr, Appends, Consumes}
use Rattle.script_engine.specs.{Gives, IsToldUntil, AnswersEnded, IsAnswered, ScriptFault}
use Rattle.script_engine.specs.declared.fault.ScriptFault.TheVariants.{Read}
use Rattle.script_databases.specs.{Program, State, no_databases}
use Rattle.commands.specs.{TrustedLines}
use Rattle.couch_replicate.specs.{Answered}
use Rattle.couch_replicate.proofs.run.run_words.Goals as goal

-- the output of the run of a script
answered : (g : Program) (given taken : List ℕ → Type 0) (h h' : Option (List ℕ)) (x : Result Bool ScriptFault) →
    IfOk x (λ clean. (input : List ℕ) × (text : List ℕ) × (state : State) × given input × Appends h h' text × IsAnswered TrustedLines (no_databases g) input clean text state) →
    IfErr x (λ fault. (input : List ℕ) × (text : List ℕ) × given input × Appends h h' text × IsToldUntil fault TrustedLines (no_databases g) input text) →
    IfErr x (λ fault. fault ≡ Read → (input : List ℕ) × (text : List ℕ) × (state : State) × taken input × Appends h h' text × AnswersEnded TrustedLines (no_databases g) input text state) → Answered g given taken h h' x
answered g given taken h h' (Ok clean) a f e = a
answered g given taken h h' (Err fault) a (input, text, gives, written, so_far) e = ((input, text, gives, written, so_far), e)

pub returns : goal.returns
returns g c =
    let R = g.R.ScriptRead in
    let old = c.args.reader.now in
    let new = c.run_script-ended.new.reader in
    let ran = c.run_script-ended.ensures in (
      c.in-Ok.options,
      c.in-Ok.ensures.ok,
      answered _ (λ z. Gives (R.left old) z) (λ z. Consumes (R.left old) (R.left new) z) _ _ c.run_script-ended.result ran.trust ran.trust_until ran.read,
      answered _ (λ z. Appends (R.taken old) (R.taken new) z) (λ z. Appends (R.taken old) (R.taken new) z) _ _ c.run_script-ended.result ran.took ran.took_until ran.took_in,
      ran.ended,
      ran.sent,
    )
