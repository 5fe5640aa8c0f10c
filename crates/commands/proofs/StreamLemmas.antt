-- A script whose reader and writer keep a history.
use Rattle.std.specs.Prelude.{OnOk}
use Rattle.proof_prelude.proofs.{◌≡◌, ℕ, List, [], ◌++◌, Bool, Some, Result, Ok, Err, IfOk, IfErr, sym, ap, subst, ◌∙◌, unwrap_or}
use Rattle.script_engine.specs.{AnswersEnded, IsAnswered, IsToldUntil, ScriptFault}
use Rattle.script_engine.specs.Faults.{IsSent}
use Rattle.script_engine.specs.declared.fault.ScriptFault.TheVariants.{Read}
use Rattle.script_engine.proofs.StreamLemmas.{until_given, ended_given}
use Rattle.script_databases.specs.{Program, State, no_databases}
use Rattle.commands.specs.{Prints, TrustedLines}

known : {x y : List ℕ} → Some x ≡ Some y → x ≡ y
known e = ap (λ o. unwrap_or o []) e

-- appended to nothing
to_none : {a b c : List ℕ} → a ≡ [] → b ≡ a ++ c → b ≡ c
to_none {c = c} e h = h ∙ ap (λ z. z ++ c) e

-- The histories of the reader, `b` and `b'`, and of the buffered writer, `h` and `h'`, are those before and after the run.
pub prints : (program : Program) (E : Type 0) (r : Result Bool ScriptFault) (b b' h h' given : List ℕ) → b ≡ [] → h ≡ [] → (rest : List ℕ) × (h' ≡ given ++ rest) → IsSent r (Some h') (Some given) →
    IfOk r (λ clean. (input : List ℕ) × (text : List ℕ) × (state : State) × (b' ≡ b ++ input) × (h' ≡ h ++ text) × IsAnswered TrustedLines (no_databases program) input clean text state) →
    OnOk r E →
    IfErr r (λ fault. (input : List ℕ) × (text : List ℕ) × (b' ≡ b ++ input) × (h' ≡ h ++ text) × IsToldUntil fault TrustedLines (no_databases program) input text) →
    IfErr r (λ fault. fault ≡ Read → (input : List ℕ) × (text : List ℕ) × (state : State) × (b' ≡ b ++ input) × (h' ≡ h ++ text) × AnswersEnded TrustedLines (no_databases program) input text state) →
    Prints program b' E given r
prints program E (Ok clean) b b' h h' given eb eh front s (input, text, state, ei, et, answered) ended until read =
    let all : text ≡ given = sym (s ∙ to_none eh et) in
    (ended, state, subst (λ z. IsAnswered TrustedLines (no_databases program) z clean given state) (sym (to_none eb ei)) (subst (λ z. IsAnswered TrustedLines (no_databases program) input clean z state) all answered))
prints program E (Err fault) b b' h h' given eb eh front s ok ended until read =
    let none = no_databases program in
    let p = until_given TrustedLines none (Err fault) b b' h h' given eb eh front s until in (
      subst (λ z. IsToldUntil fault TrustedLines none z given) (sym (known p.2)) (subst (λ z. IsToldUntil fault TrustedLines none p.0 z) (sym (known p.3)) p.4),
      (λ e.
          let q = read e in
          let k = ended_given TrustedLines none q.2 (Err fault) b b' h h' given eb eh s (λ is. (q.0, q.1, q.3, q.4, q.5)) e in
          (q.2, subst (λ z. AnswersEnded TrustedLines none z given q.2) (sym (known k.2)) (subst (λ z. AnswersEnded TrustedLines none k.0 z q.2) (sym (known k.3)) k.4))),
    )
