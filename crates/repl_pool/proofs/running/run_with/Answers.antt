use Rattle.proof_prelude.proofs.{rules, ◌≡◌, Ok, sym, ap, ◌∙◌, option_copied, arith}
use Rattle.repl_peer.specs.{PeerValue, read_in}
use Rattle.repl_target.proofs.{begun_reads}
use Rattle.pool_workers.specs.{MayFill}
use Rattle.pool_workers.proofs.{seats_seated, seats_fewer, back_same}
use Rattle.repl_pool.specs.{early_answer}
use Rattle.repl_pool.proofs.{begun_held, begun_run, begun_fresh, crew_some, crew_most, Passes, passes, runs_early, runs_refused, runs_begun, shown_well}
use Rattle.repl_pool.proofs.running.run_with.Goals as goal

pub run_begun-requires-clause-workers : goal.run_begun-requires-clause-workers
run_begun-requires-clause-workers g c κs within =
    let p : Passes c.args.plan.now = passes c.args.source.1 c.args.target.1 c.args.plan.now (sym c.check_run.ensures ∙ c.in_default.is) in
    let start = c.in-Ok.start in
    let goal = c.update_seq.result in
    let most = crew_most c.args.plan.now start goal c.crew_of-crew.result c.crew_of-crew.ensures p.some in
    (c.new-blank.ensures, crew_some c.args.plan.now start goal c.crew_of-crew.result c.crew_of-crew.ensures p.some, omega (arith, most, p.most))

pub run_begun-requires-clause-seats : goal.run_begun-requires-clause-seats
run_begun-requires-clause-seats g c κs within =
    let p : Passes c.args.plan.now = passes c.args.source.1 c.args.target.1 c.args.plan.now (sym c.check_run.ensures ∙ c.in_default.is) in
    let most = crew_most c.args.plan.now c.in-Ok.start c.update_seq.result c.crew_of-crew.result c.crew_of-crew.ensures p.some in
    seats_fewer (option_copied c.args.shows.board) c.crew_of-crew.result c.args.plan.now.workers c.args.shows.seats.items most c.requires.seats

pub crew_of-crew-requires-clause-workers : goal.crew_of-crew-requires-clause-workers
crew_of-crew-requires-clause-workers g c =
    let p : Passes c.args.plan.now = passes c.args.source.1 c.args.target.1 c.args.plan.now (sym c.check_run.ensures ∙ c.in_default.is) in
    p.some

pub crew_of-crew-requires-clause-batch : goal.crew_of-crew-requires-clause-batch
crew_of-crew-requires-clause-batch g c =
    let p : Passes c.args.plan.now = passes c.args.source.1 c.args.target.1 c.args.plan.now (sym c.check_run.ensures ∙ c.in_default.is) in
    p.batch

pub run_begun-requires-clause-none : goal.run_begun-requires-clause-none
run_begun-requires-clause-none g c κs within =
    ap (λ (q : PeerValue). read_in q.sessions c.args.plan.now.session) c.in-Ok.ensures.ok.1 ∙ begun_reads c.args.source.1 c.args.target.1 c.args.plan.now c.in-Ok.ensures.ok.0

pub run_begun-requires-clause-fresh : goal.run_begun-requires-clause-fresh
run_begun-requires-clause-fresh g c κs within = begun_fresh c.args.source.1 c.args.target.1 c.args.plan.now c.begin_reserved.new.target.1 c.in-Ok.ensures.ok.0 c.in-Ok.ensures.ok.1

pub run_begun-requires-clause-run : goal.run_begun-requires-clause-run
run_begun-requires-clause-run g c κs within = begun_run c.args.source.1 c.args.target.1 c.args.plan.now c.begin_reserved.new.target.1 c.in-Ok.ensures.ok.0 c.in-Ok.ensures.ok.1

pub run_begun-requires-clause-held : goal.run_begun-requires-clause-held
run_begun-requires-clause-held g c κs within = begun_held c.args.source.1 c.args.target.1 c.args.plan.now c.begin_reserved.new.target.1 c.in-Ok.ensures.ok.0 c.in-Ok.ensures.ok.1

pub returns-in-Ok-clause-runs : goal.returns-in-Ok-clause-runs
returns-in-Ok-clause-runs g c =
    let e = c.in-Ok.ensures in
    let early : early_answer c.args.source.1 c.args.target.1 c.args.plan.now ≡ Ok tt = sym c.check_run.ensures ∙ c.in_default.is in
    runs_begun g.F.WriteFilter.refuses (MayFill (option_copied c.args.shows.board)) (g.G.Gate.may_stop c.args.gate.now) c.args.plan.now c.args.source c.args.target c.begin_reserved.new.target _ c.run_begun.result.source c.run_begun.result.target _
    early e.source_law c.law-2.ensures.peer.sessions e.target_law.sessions e.ok.0 e.filter e.ok.1
    c.run_begun.ensures.filter c.run_begun.ensures.source c.run_begun.ensures.grown c.run_begun.ensures.ends

pub returns-in-Ok-clause-shown : goal.returns-in-Ok-clause-shown
returns-in-Ok-clause-shown g c =
    shown_well (option_copied c.args.shows.board) _ _ c.args.source.1 c.args.target.1 c.run_begun.result.target.1 c.args.plan.now _ c.run_begun.result.outcome c.run_begun.ensures.shown (returns-in-Ok-clause-runs g c).well

pub returns-in-Err-clause-runs : goal.returns-in-Err-clause-runs
returns-in-Err-clause-runs g c =
    runs_early g.F.WriteFilter.refuses (MayFill (option_copied c.args.shows.board)) (g.G.Gate.may_stop c.args.gate.now) c.args.plan.now c.args.source c.args.target _ _ c.law-2.ensures.peer.sessions (sym c.check_run.ensures ∙ c.in-Err.is) (search rules)

pub returns-in-Err-clause-back : goal.returns-in-Err-clause-back
returns-in-Err-clause-back g c = back_same (option_copied c.args.shows.board) _ (seats_seated (option_copied c.args.shows.board) 0 c.args.plan.now.workers _ c.requires.seats)

pub returns-in-Err-begin_reserved-clause-runs : goal.returns-in-Err-begin_reserved-clause-runs
returns-in-Err-begin_reserved-clause-runs g c =
    let early : early_answer c.args.source.1 c.args.target.1 c.args.plan.now ≡ Ok tt = sym c.check_run.ensures ∙ c.in_default.is in
    runs_refused g.F.WriteFilter.refuses (MayFill (option_copied c.args.shows.board)) (g.G.Gate.may_stop c.args.gate.now) c.args.plan.now c.args.source c.args.target _ _ c.begin_reserved.new.target c.law-2.ensures.peer.sessions early c.in-Err-begin_reserved.ensures.refused c.in-Err-begin_reserved.ensures.filter c.in-Err-begin_reserved.ensures.err

pub returns-in-Err-begin_reserved-clause-back : goal.returns-in-Err-begin_reserved-clause-back
returns-in-Err-begin_reserved-clause-back g c = back_same (option_copied c.args.shows.board) _ (seats_seated (option_copied c.args.shows.board) 0 c.args.plan.now.workers _ c.requires.seats)

pub run_begun-requires-clause-batch : goal.run_begun-requires-clause-batch
run_begun-requires-clause-batch g c κs within =
    let p : Passes c.args.plan.now = passes c.args.source.1 c.args.target.1 c.args.plan.now (sym c.check_run.ensures ∙ c.in_default.is) in
    p.batch
