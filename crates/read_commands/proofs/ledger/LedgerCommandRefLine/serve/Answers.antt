use Rattle.proof_prelude.proofs.{Ok, Err, refl, sym, ap, ◌∙◌}
use Rattle.script_engine.specs.{in_full, gave_up}
use Rattle.script_databases.specs.declared.refusal.Refusal.TheVariants as why
use Rattle.command_api.proofs.{passes, stops, is_found, is_missing, reads, printed, refused_memory}
use Rattle.read_commands.proofs.ledger.LedgerCommandRefLine.serve.Goals as goal

pub returns-in_default : goal.returns-in_default
returns-in_default g c = in_full (reads (Err why.NoDatabase) (stops _ (is_missing why.NoDatabase (sym c.in_default.ensures))))

pub returns-in_default-ledger : goal.returns-in_default-ledger
returns-in_default-ledger g c = in_full (reads (Err why.NoSuchSession) (passes _ (is_found why.NoDatabase (sym c.in-Some.ensures)) ∙ stops _ (is_missing why.NoSuchSession (sym c.in_default-ledger.ensures))))

pub returns : goal.returns
returns g c =
    let text = printed c.in_ok-print.ensures c.requires.empty refl in
    in_full (reads (Ok c.print.new.answer.items) (passes _ (is_found why.NoDatabase (sym c.in-Some.ensures)) ∙ passes _ (is_found why.NoSuchSession (sym c.in-Some-ledger.ensures)) ∙ ap Ok (sym text)))

pub returns-in_err-print : goal.returns-in_err-print
returns-in_err-print g c = refused_memory c.from_residual.result _ c.from_residual.ensures.1 gave_up
