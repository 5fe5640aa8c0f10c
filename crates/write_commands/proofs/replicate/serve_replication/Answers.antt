use Rattle.proof_prelude.proofs.{Ok, Err, refl, sym, ap, subst, ◌∙◌}
use Rattle.script_engine.specs.{MayTell, in_full, served_only}
use Rattle.script_databases.specs.{name_of}
use Rattle.script_databases.specs.declared.refusal.Refusal.TheVariants as why
use Rattle.command_api.specs.{told_of}
use Rattle.write_commands.specs.{ReportsReplication, replicate_asked, ending_line}
use Rattle.write_commands.proofs.{replicates, replicated, unchosen, too_late}
use Rattle.command_api.proofs.{passes, stops, is_found, is_missing, is_there, is_absent, printed, handed_on, refused_memory}
use Rattle.write_commands.proofs.replicate.serve_replication.Goals as goal

pub returns-then-not-has : goal.returns-then-not-has
returns-then-not-has g c =
    let old = c.args.databases.now in
    in_full (replicates old old (replicate_asked c.args.ask.now) _ (Err why.NoDatabase) (stops _ (is_missing why.NoDatabase (is_absent old c.args.ask.now.source.now (sym c.has.ensures ∙ c.if-not-has.true)))) (refl, refl))

pub returns-then-not-has-2 : goal.returns-then-not-has-2
returns-then-not-has-2 g c =
    let old = c.args.databases.now in
    let s = is_there old c.args.ask.now.source.now (sym c.has.ensures ∙ c.if-not-has.false) in
    in_full (replicates old old (replicate_asked c.args.ask.now) _ (Err why.NoDatabase) (passes _ (is_found why.NoDatabase s.1) ∙ stops _ (is_missing why.NoDatabase (is_absent old c.args.ask.now.target.now (sym c.has-2.ensures ∙ c.if-not-has-2.true)))) (refl, refl))

pub returns-in_err-chosen : goal.returns-in_err-chosen
returns-in_err-chosen g c =
    let old = c.args.databases.now in
    let s = is_there old c.args.ask.now.source.now (sym c.has.ensures ∙ c.if-not-has.false) in
    let t = is_there old c.args.ask.now.target.now (sym c.has-2.ensures ∙ c.if-not-has-2.false) in
    handed_on c.in_err-chosen.field-0.0 c.from_residual.result _ c.from_residual.ensures.1
    (in_full (unchosen old c.session_asked-session.new.databases (replicate_asked c.args.ask.now) s.0 t.0 c.in_err-chosen.field-0.0 s.1 t.1 c.in_err-chosen.ensures c.session_asked-session.ensures.state))

pub returns-in_err-plan : goal.returns-in_err-plan
returns-in_err-plan g c =
    let old = c.args.databases.now in
    let ask = replicate_asked c.args.ask.now in
    let s = is_there old c.args.ask.now.source.now (sym c.has.ensures ∙ c.if-not-has.false) in
    let t = is_there old c.args.ask.now.target.now (sym c.has-2.ensures ∙ c.if-not-has-2.false) in
    let new = c.session_asked-session.new.databases in
    handed_on c.in_err-plan.field-0.0 c.from_residual-in_err-plan.result _ c.from_residual-in_err-plan.ensures.1
    (subst (λ r. MayTell ReportsReplication old ask (Err (name_of r)) new) (sym c.in_err-plan.ensures.err.0)
    (in_full (too_late old new ask s.0 t.0 c.in_ok-chosen.chosen new.program s.1 t.1 c.in_ok-chosen.ensures c.session_asked-session.ensures.state refl c.in_err-plan.ensures.err.1)))

pub returns-in_err-ending : goal.returns-in_err-ending
returns-in_err-ending g c =
    let ask = replicate_asked c.args.ask.now in
    let p = c.in_ok-plan in
    handed_on c.in_err-ending.field-0.0 c.from_residual-in_err-ending.result _ c.from_residual-in_err-ending.ensures.1
    (in_full (replicated c.args.databases.now c.session_asked-session.new.databases _ ask c.session_asked-session.result c.in_ok-chosen.chosen p.plan c.run_plan.result _ c.session_asked-session.ensures.state c.session_asked-session.ensures.session c.in_ok-chosen.ensures p.ensures.ok.0 p.ensures.ok.1 c.run_plan.ensures
    (sym (ap told_of (stops _ c.in_err-ending.was)))))

pub returns : goal.returns
returns g c =
    let ask = replicate_asked c.args.ask.now in
    let p = c.in_ok-plan in
    in_full (replicated c.args.databases.now c.session_asked-session.new.databases _ ask c.session_asked-session.result c.in_ok-chosen.chosen p.plan c.run_plan.result _ c.session_asked-session.ensures.state c.session_asked-session.ensures.session c.in_ok-chosen.ensures p.ensures.ok.0 p.ensures.ok.1 c.run_plan.ensures
    (ap Ok (printed c.in_ok-print.ensures c.requires.empty refl) ∙ sym (ap told_of (passes _ c.in_ok-ending.was))))

pub returns-in_err-print : goal.returns-in_err-print
returns-in_err-print g c =
    let ask = replicate_asked c.args.ask.now in
    let p = c.in_ok-plan in
    refused_memory c.from_residual-in_err-print.result _ c.from_residual-in_err-print.ensures.1 (served_only (ending_line p.plan.session c.in_ok-ending.ending)
    (replicated c.args.databases.now c.session_asked-session.new.databases _ ask c.session_asked-session.result c.in_ok-chosen.chosen p.plan c.run_plan.result _ c.session_asked-session.ensures.state c.session_asked-session.ensures.session c.in_ok-chosen.ensures p.ensures.ok.0 p.ensures.ok.1 c.run_plan.ensures
    (sym (ap told_of (passes _ c.in_ok-ending.was)))))
