use Rattle.proof_prelude.proofs.{Ok, Err, Some, None, ap, inl, inr, refl, sym, ◌∙◌}
use Rattle.script_engine.specs.{in_full}
use Rattle.write_commands.proofs.{loads}
use Rattle.command_api.proofs.{handed_on, is_absent, is_there, may_tell, unless_memory}
use Rattle.write_commands.proofs.load.load_given.Goals as goal

pub returns-then-has : goal.returns-then-has
returns-then-has c =
    let l = is_there c.args.databases.now c.args.db.now (sym c.has.ensures ∙ c.if-has.true) in
    in_full (loads _ _ _ _ (Some l.0) (Some c.args.uuid) _ l.1 refl refl (refl, refl))

pub returns-then-is_taken : goal.returns-then-is_taken
returns-then-is_taken c =
    let absent = is_absent c.args.databases.now c.args.db.now (sym c.has.ensures ∙ c.if-has.false) in
    in_full (loads _ _ _ _ None (Some c.args.uuid) _ absent refl refl (inl (c.is_taken.ensures.taken c.if-is_taken.true, (refl, refl))))

pub returns-in_err-read_document : goal.returns-in_err-read_document
returns-in_err-read_document c =
    let absent = is_absent c.args.databases.now c.args.db.now (sym c.has.ensures ∙ c.if-has.false) in
    handed_on c.in_err-read_document.field-0.0 c.from_residual.result _ c.from_residual.ensures.1
    (unless_memory _ c.in_err-read_document.ensures refl (λ e. loads _ _ _ _ None (Some c.args.uuid) (Err c.in_err-read_document.field-0.0) absent refl e (inr (c.is_taken.ensures.free c.if-is_taken.false, (refl, refl)))))

pub returns-in-None : goal.returns-in-None
returns-in-None c =
    let absent = is_absent c.args.databases.now c.args.db.now (sym c.has.ensures ∙ c.if-has.false) in
    may_tell (λ t a. loads _ _ _ t None (Some c.args.uuid) (Ok None) absent refl (c.in_ok-read_document.ensures ∙ ap Ok c.in-None.is) (inr (c.is_taken.ensures.free c.if-is_taken.false, a))) c.make_empty.ensures

pub returns-in-Some : goal.returns-in-Some
returns-in-Some c =
    let absent = is_absent c.args.databases.now c.args.db.now (sym c.has.ensures ∙ c.if-has.false) in
    may_tell (λ t a. loads _ _ _ t None (Some c.args.uuid) (Ok (Some c.in-Some.document)) absent refl (c.in_ok-read_document.ensures ∙ ap Ok c.in-Some.is) (inr (c.is_taken.ensures.free c.if-is_taken.false, a))) c.make_with.ensures
