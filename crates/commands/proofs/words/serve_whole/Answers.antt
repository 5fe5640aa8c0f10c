use Rattle.proof_prelude.proofs.{subst, sym}
use Rattle.script_engine.specs.{MayTell}
use Rattle.command_api.specs.Telling.{AnswersIn}
use Rattle.commands.proofs.words.serve_whole.Goals as goal

pub returns : goal.returns
returns g c =
    let new = c.serve_in.new.databases in
    record {
      told = subst (λ t. MayTell (AnswersIn g.C.Command.answers) c.args.databases.now (g.C.Command.asked_in (g.C.Command.seen c.args.line)) t new) (sym (c.whole.ensures.told new c.serve_in.new.answer.items)) c.serve_in.ensures;
      fits = c.whole.ensures.fits new;
      split = c.whole.ensures.split new c.serve_in.new.answer.items;
    }
