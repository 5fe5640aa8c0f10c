use Rattle.proof_prelude.proofs.{List, ℕ, Ok, Err, refl, sym, ap, ◌∙◌}
use Rattle.script_engine.specs.{in_full, gave_up}
use Rattle.script_databases.specs.declared.refusal.Refusal.TheVariants as why
use Rattle.read_commands.specs.{show_text}
use Rattle.command_api.proofs.{passes, stops, is_found, is_missing, reads, printed, unless_memory, tree_is, handed_on, refused_memory}
use Rattle.read_commands.proofs.show.ShowCommandRefLine.serve.Goals as goal

pub returns-in_default : goal.returns-in_default
returns-in_default g c = in_full (reads (Err why.NoDatabase) (stops _ (is_missing why.NoDatabase (sym c.in_default.ensures))))

pub returns-in_err-id : goal.returns-in_err-id
returns-in_err-id g c = handed_on c.in_err-id.field-0.0 c.from_residual.result _ c.from_residual.ensures.1 (unless_memory _ c.in_err-id.ensures refl (λ e. reads (Err c.in_err-id.field-0.0) (passes _ (is_found why.NoDatabase (sym c.in-Some.ensures)) ∙ stops _ e)))

pub returns-in_default-tree : goal.returns-in_default-tree
returns-in_default-tree g c =
    let none = tree_is _ c.in-Some.peer.now.1 c.in_ok-id.id _ c.db.ensures.value c.in_default-tree.ensures.value in
    in_full (reads (Err why.NoSuchDocument) (passes _ (is_found why.NoDatabase (sym c.in-Some.ensures)) ∙ passes _ c.in_ok-id.ensures ∙ stops _ (is_missing why.NoSuchDocument none)))

pub returns : goal.returns
returns g c =
    let some = tree_is _ c.in-Some.peer.now.1 c.in_ok-id.id _ c.db.ensures.value c.in-Some-tree.ensures.value in
    let text = printed c.in_ok-print.ensures c.requires.empty (ap (λ (id : List ℕ). show_text id c.in-Some-tree.tree.now) c.text.ensures.text) in
    in_full (reads (Ok c.print.new.answer.items) (passes _ (is_found why.NoDatabase (sym c.in-Some.ensures)) ∙ passes _ c.in_ok-id.ensures ∙ passes _ (is_found why.NoSuchDocument some) ∙ ap Ok (sym text)))

pub returns-in_err-print : goal.returns-in_err-print
returns-in_err-print g c = refused_memory c.from_residual-in_err-print.result _ c.from_residual-in_err-print.ensures.1 gave_up
