use Rattle.proof_prelude.proofs.{List, ℕ, refl, sym, ap, ◌∙◌}
use Rattle.repl_peer.specs.{after_edit}
use Rattle.script_engine.specs.{in_full, served_only}
use Rattle.script_databases.specs.{edited_answer}
use Rattle.script_databases.specs.declared.refusal.Refusal.TheVariants as why
use Rattle.write_commands.specs.{edited_line}
use Rattle.command_api.proofs.{passes, stops, is_found, is_missing, is_there, is_absent, does, does_nothing, both, printed, unless_memory, changed_is, handed_on, refused_memory}
use Rattle.write_commands.proofs.edit.edit_loud.Goals as goal

pub returns-then-not-has : goal.returns-then-not-has
returns-then-not-has c = in_full (does_nothing why.NoDatabase (stops _ (is_missing why.NoDatabase (is_absent c.args.databases.now c.args.ask.now.db.now (sym c.has.ensures ∙ c.if-not-has.true)))) refl)

pub returns-in_err-id : goal.returns-in_err-id
returns-in_err-id c =
    let l = is_there c.args.databases.now c.args.ask.now.db.now (sym c.has.ensures ∙ c.if-not-has.false) in
    handed_on c.in_err-id.field-0.0 c.from_residual.result _ c.from_residual.ensures.1
    (unless_memory _ c.in_err-id.ensures refl (λ e. does_nothing c.in_err-id.field-0.0 (passes _ (is_found why.NoDatabase l.1) ∙ stops _ e) refl))

pub returns-in_err-parent : goal.returns-in_err-parent
returns-in_err-parent c =
    let l = is_there c.args.databases.now c.args.ask.now.db.now (sym c.has.ensures ∙ c.if-not-has.false) in
    handed_on c.in_err-parent.field-0.0 c.from_residual-in_err-parent.result _ c.from_residual-in_err-parent.ensures.1
    (in_full (does_nothing c.in_err-parent.field-0.0 (passes _ (is_found why.NoDatabase l.1) ∙ passes _ c.in_ok-id.ensures ∙ stops _ (sym c.in_err-parent.ensures)) refl))

pub returns-in_err-body : goal.returns-in_err-body
returns-in_err-body c =
    let l = is_there c.args.databases.now c.args.ask.now.db.now (sym c.has.ensures ∙ c.if-not-has.false) in
    handed_on c.in_err-body.field-0.0 c.from_residual-in_err-body.result _ c.from_residual-in_err-body.ensures.1
    (unless_memory _ c.in_err-body.ensures refl
    (λ e. does_nothing c.in_err-body.field-0.0 (passes _ (is_found why.NoDatabase l.1) ∙ passes _ c.in_ok-id.ensures ∙ passes _ (sym c.in_ok-parent.ensures) ∙ stops _ e) refl))

pub returns-in_err-edited : goal.returns-in_err-edited
returns-in_err-edited c =
    let l = is_there c.args.databases.now c.args.ask.now.db.now (sym c.has.ensures ∙ c.if-not-has.false) in
    handed_on c.in_err-edited.field-0.0 c.from_residual-in_err-edited.result _ c.from_residual-in_err-edited.ensures.1
    (unless_memory _ c.in_err-edited.ensures.answer c.in_err-edited.ensures.err
    (λ e. does_nothing c.in_err-edited.field-0.0
    (passes _ (is_found why.NoDatabase l.1) ∙ passes _ c.in_ok-id.ensures ∙ passes _ (sym c.in_ok-parent.ensures) ∙ passes _ c.in_ok-body.ensures
    ∙ stops _ (ap (λ o. edited_answer o c.in_ok-id.id c.in_ok-parent.parent c.args.ask.now.deleted c.in_ok-body.body) (sym l.1) ∙ e)) c.in_err-edited.ensures.err))

pub returns : goal.returns
returns c =
    let l = is_there c.args.databases.now c.args.ask.now.db.now (sym c.has.ensures ∙ c.if-not-has.false) in
    let id = c.in_ok-id.id in
    let parent = c.in_ok-parent.parent in
    let body = c.in_ok-body.body in
    let edited = c.in_ok-edited.edited in
    let deleted = c.args.ask.now.deleted in
    let text = printed c.in_ok-print.ensures c.requires.empty (ap (λ (id : List ℕ). edited_line c.args.ask.now.db.now id edited) c.text.ensures.text) in
    let state = changed_is c.args.databases.now _ c.args.ask.now.db.now (λ x. after_edit x id parent deleted body) l.0 l.1 c.in_ok-edited.ensures.ok in
    in_full (does c.args.databases.now c.print.new.answer.items
    (passes _ (is_found why.NoDatabase l.1) ∙ passes _ c.in_ok-id.ensures ∙ passes _ (sym c.in_ok-parent.ensures) ∙ passes _ c.in_ok-body.ensures
    ∙ passes _ (ap (λ o. edited_answer o id parent deleted body) (sym l.1) ∙ c.in_ok-edited.ensures.answer) ∙ both text state))

pub returns-in_err-print : goal.returns-in_err-print
returns-in_err-print c =
    let l = is_there c.args.databases.now c.args.ask.now.db.now (sym c.has.ensures ∙ c.if-not-has.false) in
    let id = c.in_ok-id.id in
    let parent = c.in_ok-parent.parent in
    let body = c.in_ok-body.body in
    let edited = c.in_ok-edited.edited in
    let deleted = c.args.ask.now.deleted in
    let state = changed_is c.args.databases.now _ c.args.ask.now.db.now (λ x. after_edit x id parent deleted body) l.0 l.1 c.in_ok-edited.ensures.ok in
    refused_memory c.from_residual-in_err-print.result _ c.from_residual-in_err-print.ensures.1 (served_only (edited_line c.args.ask.now.db.now id edited) (does c.args.databases.now (edited_line c.args.ask.now.db.now id edited)
    (passes _ (is_found why.NoDatabase l.1) ∙ passes _ c.in_ok-id.ensures ∙ passes _ (sym c.in_ok-parent.ensures) ∙ passes _ c.in_ok-body.ensures
    ∙ passes _ (ap (λ o. edited_answer o id parent deleted body) (sym l.1) ∙ c.in_ok-edited.ensures.answer) ∙ both refl state)))
