use Rattle.proof_prelude.proofs.{Some, ap, refl, sym, ◌∙◌}
use Rattle.repl_peer.specs.{after_load}
use Rattle.script_engine.specs.{in_full, served_only}
use Rattle.script_databases.specs.{State, load_answer, peer_at}
use Rattle.write_commands.specs.{put_line}
use Rattle.write_commands.proofs.{loads_named, there_told}
use Rattle.command_api.proofs.{both, changed_is, does, does_nothing, is_absent, is_there, passes, printed, refused_memory, stops, unless_memory}
use Rattle.write_commands.proofs.load.put.Goals as goal

pub returns-in_ok-print_put-in-Ok : goal.returns-in_ok-print_put-in-Ok
returns-in_ok-print_put-in-Ok c =
    let s = c.args.databases.now in
    let doc = c.args.document.now in
    let l = there_told (peer_at s c.args.db.now) doc c.in-Ok.put c.in-Ok.ensures.answer in
    let text = printed c.in_ok-print_put-in-Ok.ensures c.requires.empty refl in
    let state = changed_is s _ c.args.db.now (λ x. after_load x doc) l.0 l.1 c.in-Ok.ensures.ok in
    in_full (loads_named _ _ _ _ (Some l.0) l.1 (does s c.print_put.new.answer.items (passes _ (ap (λ o. load_answer o doc) (sym l.1) ∙ c.in-Ok.ensures.answer) ∙ both text state)))

pub returns-in_err-print_put-in-Ok : goal.returns-in_err-print_put-in-Ok
returns-in_err-print_put-in-Ok c =
    let s = c.args.databases.now in
    let doc = c.args.document.now in
    let l = there_told (peer_at s c.args.db.now) doc c.in-Ok.put c.in-Ok.ensures.answer in
    let line = put_line c.args.db.now doc c.in-Ok.put in
    let state = changed_is s _ c.args.db.now (λ x. after_load x doc) l.0 l.1 c.in-Ok.ensures.ok in
    refused_memory c.from_residual.result _ c.from_residual.ensures.1
    (served_only line (loads_named _ _ _ _ (Some l.0) l.1 (does s line (passes _ (ap (λ o. load_answer o doc) (sym l.1) ∙ c.in-Ok.ensures.answer) ∙ both refl state))))

-- an error of the database
pub returns-then-has : goal.returns-then-has
returns-then-has c =
    let doc = c.args.document.now in
    let kept = c.in-Err.ensures.err in
    let l = is_there c.load.new.self c.args.db.now (sym c.has.ensures ∙ c.if-has.true) in
    let there = ap (λ (s : State). peer_at s c.args.db.now) (sym kept) ∙ l.1 in
    unless_memory _ c.in-Err.ensures.answer kept
    (λ e. loads_named _ _ _ _ (Some l.0) there (does_nothing c.in-Err.refusal (stops _ (ap (λ o. load_answer o doc) (sym there) ∙ e)) kept))

-- or there is no database
pub put_new-requires-clause-absent : goal.put_new-requires-clause-absent
put_new-requires-clause-absent c = is_absent c.load.new.self c.args.db.now (sym c.has.ensures ∙ c.if-has.false)
