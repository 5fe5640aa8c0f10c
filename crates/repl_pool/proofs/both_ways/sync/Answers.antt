use Rattle.proof_prelude.proofs.{ap, subst}
use Rattle.repl_peer.specs.{PeerValue}
use Rattle.repl_target.proofs.{turned_tied, source_stays, target_stays, both_stay, both_meet}
use Rattle.repl_pool.specs.Runs.{Runs}
use Rattle.repl_pool.specs.{refused_there, refused_back, both}
use Rattle.repl_pool.proofs.{run_leaves}
use Rattle.repl_pool.proofs.both_ways.sync.Goals as goal

pub returns-in-Err-clause-runs : goal.returns-in-Err-clause-runs
returns-in-Err-clause-runs g c =
    refused_there (subst (λ o. Runs g.F.WriteFilter.refuses (g.G.Gate.may_stop c.args.gate.now) c.args.there.now c.args.a c.args.b c.run-a.result.source c.run-a.result.target c.run-a.result.fetched.items o) c.in-Err.is c.run-a.ensures.runs)

pub returns-in-Err-clause-tied_back : goal.returns-in-Err-clause-tied_back
returns-in-Err-clause-tied_back g c = turned_tied c.args.a.1 c.args.b.1 c.run-a.result.source.1 c.run-a.result.target.1 c.run-a.ensures.runs.others

pub returns-in-Err-clause-others : goal.returns-in-Err-clause-others
returns-in-Err-clause-others g c = (
  source_stays c.args.a.1 c.args.b.1 c.run-a.result.source.1 c.run-a.result.target.1 c.run-a.ensures.runs.others,
  target_stays c.args.a.1 c.args.b.1 c.run-a.result.source.1 c.run-a.result.target.1 c.run-a.ensures.runs.others,
)

pub returns-in-Ok-outcome-clause-runs : goal.returns-in-Ok-outcome-clause-runs
returns-in-Ok-outcome-clause-runs g c =
    both {reports = record { there = c.in-Ok.report; back = c.in-Ok-outcome.report }}
    (subst (λ o. Runs g.F.WriteFilter.refuses (g.G.Gate.may_stop c.args.gate.now) c.args.there.now c.args.a c.args.b c.run-a.result.source c.run-a.result.target c.run-a.result.fetched.items o) c.in-Ok.is c.run-a.ensures.runs)
    (subst (λ o. Runs g.F.WriteFilter.refuses (g.G.Gate.may_stop c.args.gate.now) c.args.back.now c.run-a.result.target c.run-a.result.source c.run-b.result.source c.run-b.result.target c.run-b.result.fetched.items o) c.in-Ok-outcome.is c.run-b.ensures.runs)

pub returns-in-Ok-outcome-clause-tied_there : goal.returns-in-Ok-outcome-clause-tied_there
returns-in-Ok-outcome-clause-tied_there g c =
    λ chosen backups h.
    turned_tied c.run-a.result.target.1 c.run-a.result.source.1 c.run-b.result.source.1 c.run-b.result.target.1 c.run-b.ensures.runs.others chosen backups (c.run-a.ensures.runs.tied chosen backups h)

pub returns-in-Ok-outcome-clause-tied_back : goal.returns-in-Ok-outcome-clause-tied_back
returns-in-Ok-outcome-clause-tied_back g c =
    λ chosen backups h.
    c.run-b.ensures.runs.tied chosen backups (turned_tied c.args.a.1 c.args.b.1 c.run-a.result.source.1 c.run-a.result.target.1 c.run-a.ensures.runs.others chosen backups h)

pub returns-in-Ok-outcome-clause-others : goal.returns-in-Ok-outcome-clause-others
returns-in-Ok-outcome-clause-others g c =
    let first = c.run-a.ensures.runs in
    both_stay c.args.a.1 c.args.b.1 c.run-a.result.source.1 c.run-a.result.target.1 c.run-b.result.target.1 c.run-b.result.source.1 first.others c.run-b.ensures.runs.others (ap (λ (p : PeerValue). p.db.uuid) first.log) first.later.db.uuid

pub returns-in-Ok-outcome-clause-meet : goal.returns-in-Ok-outcome-clause-meet
returns-in-Ok-outcome-clause-meet g c =
    let first = subst (λ o. Runs g.F.WriteFilter.refuses (g.G.Gate.may_stop c.args.gate.now) c.args.there.now c.args.a c.args.b c.run-a.result.source c.run-a.result.target c.run-a.result.fetched.items o) c.in-Ok.is c.run-a.ensures.runs in
    let second = subst (λ o. Runs g.F.WriteFilter.refuses (g.G.Gate.may_stop c.args.gate.now) c.args.back.now c.run-a.result.target c.run-a.result.source c.run-b.result.source c.run-b.result.target c.run-b.result.fetched.items o) c.in-Ok-outcome.is c.run-b.ensures.runs in
    both_meet (g.F.WriteFilter.refuses c.run-a.result.source.0) (g.F.WriteFilter.refuses c.args.b.0) c.args.a.1 c.args.b.1 c.run-a.result.source.1 c.run-a.result.target.1 c.run-b.result.target.1 c.run-b.result.source.1 c.args.there.now c.args.back.now
    c.law.ensures.database c.law-3.ensures.database c.law-5.ensures.database
    (run_leaves _ _ _ _ _ _ _ _ _ _ c.run-a.ensures.runs) (run_leaves _ _ _ _ _ _ _ _ _ _ c.run-b.ensures.runs) first.whole second.whole

pub returns-in-Err-outcome-clause-runs : goal.returns-in-Err-outcome-clause-runs
returns-in-Err-outcome-clause-runs g c =
    refused_back
    (subst (λ o. Runs g.F.WriteFilter.refuses (g.G.Gate.may_stop c.args.gate.now) c.args.there.now c.args.a c.args.b c.run-a.result.source c.run-a.result.target c.run-a.result.fetched.items o) c.in-Ok.is c.run-a.ensures.runs)
    (subst (λ o. Runs g.F.WriteFilter.refuses (g.G.Gate.may_stop c.args.gate.now) c.args.back.now c.run-a.result.target c.run-a.result.source c.run-b.result.source c.run-b.result.target c.run-b.result.fetched.items o) c.in-Err-outcome.is c.run-b.ensures.runs)

pub returns-in-Err-outcome-clause-tied_there : goal.returns-in-Err-outcome-clause-tied_there
returns-in-Err-outcome-clause-tied_there g c =
    λ chosen backups h.
    turned_tied c.run-a.result.target.1 c.run-a.result.source.1 c.run-b.result.source.1 c.run-b.result.target.1 c.run-b.ensures.runs.others chosen backups (c.run-a.ensures.runs.tied chosen backups h)

pub returns-in-Err-outcome-clause-tied_back : goal.returns-in-Err-outcome-clause-tied_back
returns-in-Err-outcome-clause-tied_back g c =
    λ chosen backups h.
    c.run-b.ensures.runs.tied chosen backups (turned_tied c.args.a.1 c.args.b.1 c.run-a.result.source.1 c.run-a.result.target.1 c.run-a.ensures.runs.others chosen backups h)

pub returns-in-Err-outcome-clause-others : goal.returns-in-Err-outcome-clause-others
returns-in-Err-outcome-clause-others g c =
    let first = c.run-a.ensures.runs in
    both_stay c.args.a.1 c.args.b.1 c.run-a.result.source.1 c.run-a.result.target.1 c.run-b.result.target.1 c.run-b.result.source.1 first.others c.run-b.ensures.runs.others (ap (λ (p : PeerValue). p.db.uuid) first.log) first.later.db.uuid
