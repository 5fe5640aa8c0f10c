use Rattle.proof_prelude.proofs.{◌++◌, Ok, Err, sym, ap, ◌∙◌, flat_map}
use Rattle.couch_base.specs.{DatabaseValue, feed}
use Rattle.script_engine.specs.{in_full, gave_up}
use Rattle.script_databases.specs.declared.refusal.Refusal.TheVariants as why
use Rattle.command_api.specs.{last_line}
use Rattle.read_commands.specs.{row_line}
use Rattle.command_api.proofs.{passes, stops, is_found, is_missing, reads, printed, refused_memory}
use Rattle.read_commands.proofs.changes.ChangesCommandRefLine.serve.Goals as goal

pub returns-in_default : goal.returns-in_default
returns-in_default g c = in_full (reads (Err why.NoDatabase) (stops _ (is_missing why.NoDatabase (sym c.in_default.ensures))))

pub returns : goal.returns
returns g c =
    let since = c.args.self.now.since in
    let text = printed c.in_ok-print.ensures c.requires.empty (ap (λ (d : DatabaseValue). flat_map row_line (feed d since d.update_seq) ++ last_line d.update_seq) c.db.ensures.value) in
    in_full (reads (Ok c.print.new.answer.items) (passes _ (is_found why.NoDatabase (sym c.in-Some.ensures)) ∙ ap Ok (sym text)))

pub returns-in_err-print : goal.returns-in_err-print
returns-in_err-print g c = refused_memory c.from_residual.result _ c.from_residual.ensures.1 gave_up
