use Rattle.proof_prelude.proofs.{refl, ◌∙◌}
use Rattle.script_engine.specs.{in_full, served_only}
use Rattle.write_commands.specs.{restored_line}
use Rattle.command_api.proofs.{passes, stops, does, does_nothing, both, printed, unless_memory, handed_on, refused_memory}
use Rattle.write_commands.proofs.restore.RestoreCommandRefLine.serve.Goals as goal

pub returns-in_err-back : goal.returns-in_err-back
returns-in_err-back g c = handed_on c.in_err-back.field-0.0 c.from_residual.result _ c.from_residual.ensures.1 (unless_memory _ c.in_err-back.ensures.answer c.in_err-back.ensures.err (λ e. does_nothing c.in_err-back.field-0.0 (stops _ e) c.in_err-back.ensures.err))

pub returns : goal.returns
returns g c =
    in_full (does c.args.databases.now c.print.new.answer.items (passes _ c.in_ok-back.ensures.answer ∙ both (printed c.in_ok-print.ensures c.requires.empty refl) c.in_ok-back.ensures.ok))

pub returns-in_err-print : goal.returns-in_err-print
returns-in_err-print g c =
    let line = restored_line c.args.self.now.db.now c.args.self.now.name.now c.in_ok-back.back in
    refused_memory c.from_residual-in_err-print.result _ c.from_residual-in_err-print.ensures.1 (served_only line (does c.args.databases.now line (passes _ c.in_ok-back.ensures.answer ∙ both refl c.in_ok-back.ensures.ok)))
