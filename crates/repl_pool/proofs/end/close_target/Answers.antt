use Rattle.proof_prelude.proofs.{rules, ◌≡◌, None, true, false, sym, ap, ◌∙◌, subst}
use Rattle.repl_peer.specs.{PeerValue, after_record}
use Rattle.repl_target.specs.{closed_as}
use Rattle.repl_pool.specs.{IsRecorded, stopped, fewer, refused}
use Rattle.repl_pool.proofs.{grown_conclude, grown_then}
use Rattle.repl_pool.proofs.end.close_target.Goals as goal

pub returns-in-Ok-clause-grown : goal.returns-in-Ok-clause-grown
returns-in-Ok-clause-grown g c db chosen = grown_conclude g.F.WriteFilter.refuses db chosen c.args.plan.now.session c.args.target.now c.conclude.new.self c.args.plan.now.at c.conclude.ensures.filter c.conclude.ensures.peer

pub returns-in-Err-clause-grown : goal.returns-in-Err-clause-grown
returns-in-Err-clause-grown g c db chosen =
    grown_then g.F.WriteFilter.refuses db chosen c.args.plan.now.session c.args.target.now c.conclude.new.self c.record-in-Err.new.target
    (grown_conclude g.F.WriteFilter.refuses db chosen c.args.plan.now.session c.args.target.now c.conclude.new.self c.args.plan.now.at c.conclude.ensures.filter c.conclude.ensures.peer) (c.record-in-Err.ensures.grown db chosen)

pub returns-in-Some-clause-err : goal.returns-in-Some-clause-err
returns-in-Some-clause-err g c = stopped c.in-Some.is c.record.ensures.peer

pub returns-then-not-complete-clause-err : goal.returns-then-not-complete-clause-err
returns-then-not-complete-clause-err g c =
    let none : c.args.fault ≡ None = search rules in
    let less : c.args.complete ≡ false = search rules in
    let r = c.record-then-not-complete in
    subst (IsRecorded c.args.plan.now c.args.fault c.args.complete c.args.target.now.1 r.new.target.1) (sym r.ensures.told) (fewer none less r.ensures.peer)

pub returns-in-Err-clause-err : goal.returns-in-Err-clause-err
returns-in-Err-clause-err g c =
    let none : c.args.fault ≡ None = search rules in
    let whole : c.args.complete ≡ true = search rules in
    let plan = c.args.plan.now in
    refused none whole (sym c.in-Err.ensures.answer)
    (c.record-in-Err.ensures.peer ∙ ap (λ (p : PeerValue). after_record p plan.session plan.at) c.conclude.ensures.peer ∙ ap (closed_as c.args.target.now.1 plan) c.in-Err.ensures.answer)
