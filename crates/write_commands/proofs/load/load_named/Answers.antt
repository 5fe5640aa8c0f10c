use Rattle.proof_prelude.proofs.{Ok, Err, Some, None, ap, refl, ◌∙◌}
use Rattle.script_databases.specs.{peer_at}
use Rattle.write_commands.proofs.{loads, refused_either}
use Rattle.command_api.proofs.{handed_on, may_tell, unless_memory}
use Rattle.write_commands.proofs.load.load_named.Goals as goal

pub returns-in_err-read_document : goal.returns-in_err-read_document
returns-in_err-read_document c =
    let there = peer_at c.args.databases.now c.args.db.now in
    let refusal = c.in_err-read_document.field-0.0 in
    handed_on refusal c.from_residual.result _ c.from_residual.ensures.1
    (unless_memory _ c.in_err-read_document.ensures refl (λ e. loads _ _ _ _ there None (Err refusal) refl refl e (refused_either _ c.args.db.now refusal there)))

pub returns-in-None : goal.returns-in-None
returns-in-None c =
    may_tell (λ t a. loads _ _ _ t (peer_at c.args.databases.now c.args.db.now) None (Ok None) refl refl (c.in_ok-read_document.ensures ∙ ap Ok c.in-None.is) a) c.open.ensures

pub returns-in-Some : goal.returns-in-Some
returns-in-Some c =
    may_tell (λ t a. loads _ _ _ t (peer_at c.args.databases.now c.args.db.now) None (Ok (Some c.in-Some.document)) refl refl (c.in_ok-read_document.ensures ∙ ap Ok c.in-Some.is) a) c.put.ensures
