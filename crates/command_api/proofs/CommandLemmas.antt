-- From the results of a command to the results of an object's request.
use Rattle.proof_prelude.proofs.{◌≡◌, Result, Ok, Err, refl, sym, subst}
use Rattle.script_engine.specs.{Told, Answering, MayTell, in_full}
use Rattle.script_databases.specs.{State, name_of, Refusal}
use Rattle.command_api.specs.{AnswersIn}
use Rattle.command_api.proofs.TellingLemmas.{may_tell}

-- a valid request has a result of its command
pub room_answered : {K : Type 0} {command : Answering State K} {old new : State} {told : Told} {part : Result K Refusal} {ask : K} → part ≡ Ok ask → MayTell command old ask told new → MayTell (AnswersIn command) old part told new
room_answered {command = command} {old = old} {new = new} {told = told} e h = subst (λ p. MayTell (AnswersIn command) old p told new) (sym e) (may_tell (λ t a. a) h)

-- an invalid request fails
pub room_refused : {K : Type 0} {command : Answering State K} {old : State} {part : Result K Refusal} {refusal : Refusal} → part ≡ Err refusal → MayTell (AnswersIn command) old part (Err (name_of refusal)) old
room_refused {command = command} {old = old} {refusal = refusal} e = subst (λ p. MayTell (AnswersIn command) old p (Err (name_of refusal)) old) (sym e) (in_full (refl, refl))
