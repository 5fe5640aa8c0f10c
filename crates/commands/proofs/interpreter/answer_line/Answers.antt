use Rattle.proof_prelude.proofs.{◌≡◌, ◌⊎◌, inl, inr, ℕ, List, Err, refl, sym, ap, subst}
use Rattle.script_engine.specs.{MayTell, in_full, gave_up}
use Rattle.script_databases.specs.{IsConsistent, State, name_of, Refusal}
use Rattle.script_databases.specs.declared.refusal.Refusal.TheVariants as why
use Rattle.commands.specs.{IsNoObject, TrustedLines, asked_in}
use Rattle.json_values.specs.{line_view}
use Rattle.command_api.proofs.{may_tell}
use Rattle.commands.proofs.{line_trusted}
use Rattle.commands.proofs.interpreter.answer_line.Goals as goal

-- a line that is not an object, or an allocation failed
line_refused : (old : State) → IsConsistent old → (line : List ℕ) (refusal : Refusal) → (refusal ≡ why.Memory) ⊎ ((refusal ≡ why.BadLine) × IsNoObject line) → MayTell TrustedLines old line (Err (name_of refusal)) old
line_refused old k line refusal (inl m) = subst (λ r. MayTell TrustedLines old line (Err (name_of r)) old) (sym m) gave_up
line_refused old k line refusal (inr h) = subst (λ r. MayTell TrustedLines old line (Err (name_of r)) old) (sym h.0) (in_full (Err why.BadLine, inr (h.1, refl), (refl, refl), k, k, tt))

pub returns-in-Err-clause-told : goal.returns-in-Err-clause-told
returns-in-Err-clause-told g c = line_refused c.args.databases.now c.law.ensures c.args.line.now c.in-Err.refusal c.in-Err.ensures.err

pub returns-clause-told : goal.returns-clause-told
returns-clause-told g c =
    let o = c.in-Ok.ensures.ok in
    may_tell (λ t a. line_trusted c.args.databases.now c.serve-served.new.databases c.law.ensures c.law-2.ensures c.args.line.now t (asked_in (line_view c.in-Ok.value), inl (o.0, o.1, ap asked_in o.2), a)) c.serve-served.ensures.told
