use Rattle.proof_prelude.proofs.{Some, subst}
use Rattle.script_databases.specs.{IsTaken, State}
use Rattle.write_commands.proofs.{loads_drawn, loads_taken}
use Rattle.command_api.proofs.{handed_on}
use Rattle.write_commands.proofs.load.put_new.Goals as goal

pub returns-in_err-uuid : goal.returns-in_err-uuid
returns-in_err-uuid c =
    let refusal = c.in_err-uuid.field-0.0 in
    let told = c.in_err-uuid.ensures.err in
    handed_on refusal c.from_residual.result _ c.from_residual.ensures.1
    (loads_taken (record { db = c.args.db.now; doc = Some c.args.document.now }) refusal c.requires.absent told.0 told.1 c.in_err-uuid.ensures.drawn)

pub returns : goal.returns
returns c =
    let made = c.in_ok-uuid.ensures.ok in
    loads_drawn (record { db = c.args.db.now; doc = Some c.args.document.now }) c.in_ok-uuid.uuid c.requires.absent c.in_ok-uuid.ensures.drawn made.0 made.1 c.make_with.ensures

pub make_with-requires-clause-fresh : goal.make_with-requires-clause-fresh
make_with-requires-clause-fresh c = λ taken. c.in_ok-uuid.ensures.ok.1 (subst (λ (s : State). IsTaken s c.in_ok-uuid.uuid) c.in_ok-uuid.ensures.drawn taken)
