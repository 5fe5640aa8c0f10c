-- From the results of a command to the results of its line.
use Rattle.proof_prelude.proofs.{Result, Ok, Err}
use Rattle.script_engine.specs.{Told, Answering, MayTell}
use Rattle.script_databases.specs.{State, Refusal}
use Rattle.command_api.specs.{seen_as, AnswersIn}
use Rattle.commands.specs.{AnswersAsked, Asked, WordsAnswer}
use Rattle.command_api.proofs.{may_tell}

-- a result of a command is a result of its line
pub word_answered : {K : Type 0} {command : Answering State K} {old new : State} {told : Told} (word : K → Asked) → ((ask : K) (t : Told) → command old ask t new → WordsAnswer old (word ask) t new) → (part : Result K Refusal) → MayTell (AnswersIn command) old part told new → MayTell AnswersAsked old (seen_as word part) told new
word_answered word f (Ok ask) h = may_tell (f ask) h
word_answered word f (Err refusal) h = may_tell (λ t a. a) h
