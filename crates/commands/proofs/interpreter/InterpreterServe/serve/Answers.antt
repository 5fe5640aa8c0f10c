use Rattle.proof_prelude.proofs.{◌≤◌, length, subst, sym, arith, true, Ok, Err}
use Rattle.script_engine.specs.{MayTell, text_with}
use Rattle.script_databases.specs.{State, name_of}
use Rattle.read_commands.specs.{rest_left}
use Rattle.read_commands.proofs.{split_least}
use Rattle.commands.specs.{TrustedLines}
use Rattle.commands.proofs.{name_short}
use Rattle.commands.proofs.interpreter.InterpreterServe.serve.Goals as goal

pub returns-clause-told : goal.returns-clause-told
returns-clause-told g c =
    subst (λ (s : State). MayTell TrustedLines s c.args.line.now (Ok (text_with (rest_left c.answer_line.new.databases) c.answer_line.new.answer.items c.in-Ok.rest)) c.answer_line.new.databases) c.self.view_is c.in-Ok.ensures.told

pub returns-clause-fits : goal.returns-clause-fits
returns-clause-fits g c = c.in-Ok.ensures.fits

pub returns-clause-split : goal.returns-clause-split
returns-clause-split g c = split_least 1 65536 (rest_left c.answer_line.new.databases) true c.answer_line.new.answer.items c.in-Ok.rest (omega arith) c.in-Ok.ensures.split

pub returns-in-Err-clause-refused : goal.returns-in-Err-clause-refused
returns-in-Err-clause-refused g c =
    subst (λ n. MayTell TrustedLines c.args.self.now c.args.line.now (Err n) c.answer_line.new.databases) (sym c.name.ensures)
    (subst (λ (s : State). MayTell TrustedLines s c.args.line.now (Err (name_of c.in-Err.refusal)) c.answer_line.new.databases) c.self.view_is c.in-Err.ensures.told)

pub returns-in-Err-clause-short : goal.returns-in-Err-clause-short
returns-in-Err-clause-short g c = subst (λ n. length n ≤ 64) (sym c.name.ensures) (name_short c.in-Err.refusal)
