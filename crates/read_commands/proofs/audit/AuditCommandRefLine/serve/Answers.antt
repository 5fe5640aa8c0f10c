use Rattle.proof_prelude.proofs.{◌≡◌, Ok, Err, refl, sym, ap, ◌∙◌, none-some}
use Rattle.script_engine.specs.{in_full, gave_up}
use Rattle.script_databases.specs.declared.refusal.Refusal.TheVariants as why
use Rattle.repl_target.specs.{audit_answer}
use Rattle.read_commands.specs.{audit_asked, audit_text}
use Rattle.read_commands.proofs.{finds_none}
use Rattle.command_api.proofs.{passes, stops, is_found, is_missing, reads, printed, unless_memory, handed_on, refused_memory}
use Rattle.read_commands.proofs.audit.AuditCommandRefLine.serve.Goals as goal

pub returns-in_default : goal.returns-in_default
returns-in_default g c = in_full (reads (Err why.NoDatabase) (stops _ (is_missing why.NoDatabase (sym c.in_default.ensures))), λ p q chosen at. absurd (none-some p (c.in_default.ensures ∙ at)))

pub returns-in_default-find : goal.returns-in_default-find
returns-in_default-find g c = in_full (reads (Err why.NoDatabase) (passes _ (is_found why.NoDatabase (sym c.in-Some.ensures)) ∙ stops _ (is_missing why.NoDatabase (sym c.in_default-find.ensures))), λ p q chosen at at'. absurd (none-some q (c.in_default-find.ensures ∙ at')))

pub returns-in_err-chosen : goal.returns-in_err-chosen
returns-in_err-chosen g c = handed_on c.in_err-chosen.field-0.0 c.from_residual.result _ c.from_residual.ensures.1 (unless_memory _ c.in_err-chosen.ensures refl (λ e. (reads (Err c.in_err-chosen.field-0.0) (passes _ (is_found why.NoDatabase (sym c.in-Some.ensures)) ∙ passes _ (is_found why.NoDatabase (sym c.in-Some-find.ensures)) ∙ stops _ e), λ p q chosen at at' given. (let no : Ok chosen ≡ Err c.in_err-chosen.field-0.0 = sym given ∙ e in cc))))

pub returns-in_err-found : goal.returns-in_err-found
returns-in_err-found g c = refused_memory c.from_residual-in_err-found.result _ c.from_residual-in_err-found.ensures.1 gave_up

pub returns : goal.returns
returns g c =
    let s = c.in-Some.source.now.1 in
    let t = c.in-Some-find.target.now.1 in
    let answer = c.in_ok-found.ensures.answer ∙ ap (audit_answer s t) c.as_ref.ensures.value in
    let text = printed c.in_ok-print.ensures c.requires.empty (ap audit_text answer) in
    let none = finds_none c.args.databases.now (audit_asked c.args.self.now) s t _ _ _ (sym c.in-Some.ensures) (sym c.in-Some-find.ensures) c.in_ok-chosen.ensures c.as_ref.ensures.value answer c.in_ok-found.ensures.tied in
    in_full (reads (Ok c.print.new.answer.items) (passes _ (is_found why.NoDatabase (sym c.in-Some.ensures)) ∙ passes _ (is_found why.NoDatabase (sym c.in-Some-find.ensures)) ∙ passes _ c.in_ok-chosen.ensures ∙ ap Ok (sym text)), none)

pub returns-in_err-print : goal.returns-in_err-print
returns-in_err-print g c = refused_memory c.from_residual-in_err-print.result _ c.from_residual-in_err-print.ensures.1 gave_up
