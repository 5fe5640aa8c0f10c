use Rattle.proof_prelude.proofs.{Ok, Some, None, ap, refl, subst, sym, ◌∙◌}
use Rattle.script_databases.specs.{IsTaken, State}
use Rattle.script_engine.specs.{in_full, served_only}
use Rattle.write_commands.specs.{there_line}
use Rattle.write_commands.proofs.{loads_drawn, loads_named, loads_taken}
use Rattle.command_api.proofs.{handed_on, is_absent, is_there, printed, refused_memory}
use Rattle.write_commands.proofs.load.open.Goals as goal

pub returns-then-has : goal.returns-then-has
returns-then-has c =
    let l = is_there c.args.databases.now c.args.db.now (sym c.has.ensures ∙ c.if-has.true) in
    in_full (loads_named _ _ _ _ (Some l.0) l.1 (ap Ok (printed c.in_ok-print_there.ensures c.requires.empty refl), refl))

pub returns-in_err-print_there : goal.returns-in_err-print_there
returns-in_err-print_there c =
    let l = is_there c.args.databases.now c.args.db.now (sym c.has.ensures ∙ c.if-has.true) in
    refused_memory c.from_residual.result _ c.from_residual.ensures.1 (served_only (there_line c.args.db.now) (loads_named _ _ _ _ (Some l.0) l.1 (refl, refl)))

pub returns-in_err-uuid : goal.returns-in_err-uuid
returns-in_err-uuid c =
    let absent = is_absent c.args.databases.now c.args.db.now (sym c.has.ensures ∙ c.if-has.false) in
    let refusal = c.in_err-uuid.field-0.0 in
    let told = c.in_err-uuid.ensures.err in
    handed_on refusal c.from_residual-in_err-uuid.result _ c.from_residual-in_err-uuid.ensures.1
    (loads_taken (record { db = c.args.db.now; doc = None }) refusal absent told.0 told.1 c.in_err-uuid.ensures.drawn)

pub returns : goal.returns
returns c =
    let absent = is_absent c.args.databases.now c.args.db.now (sym c.has.ensures ∙ c.if-has.false) in
    let made = c.in_ok-uuid.ensures.ok in
    loads_drawn (record { db = c.args.db.now; doc = None }) c.in_ok-uuid.uuid absent c.in_ok-uuid.ensures.drawn made.0 made.1 c.make_empty.ensures

pub make_empty-requires-clause-fresh : goal.make_empty-requires-clause-fresh
make_empty-requires-clause-fresh c = λ taken. c.in_ok-uuid.ensures.ok.1 (subst (λ (s : State). IsTaken s c.in_ok-uuid.uuid) c.in_ok-uuid.ensures.drawn taken)
