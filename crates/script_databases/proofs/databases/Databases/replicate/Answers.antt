use Rattle.proof_prelude.proofs.{Err, Some, sym, ap, subst, ◌∙◌, err_from_is_err_and}
use Rattle.repl_pool.proofs.{run_leaves}
use Rattle.script_databases.specs.{IsConsistent, State, Nowhere, ReplicatesBetween, ReplicatesByPool, beside_of, entry_at, state_of}
use Rattle.script_databases.proofs.{at_of, names_apart, pool_between, refuses_is, run_apart, run_denied, run_refused, state_left, stored_both}
use Rattle.script_databases.proofs.databases.Databases.replicate.Goals as goal

pub take_out-sender-requires-clause-two : goal.take_out-sender-requires-clause-two
take_out-sender-requires-clause-two g c =
    names_apart (entry_at c.self.inside.by_name.entries) (λ x. x.1.db.uuid) c.args.source.now c.args.target.now _ _ c.find_both.ensures.source c.find_both.ensures.target (run_apart c.find_both.result.0.now.1 c.find_both.result.1.now.1 c.args.plan.now (sym c.in_ok-check_run.ensures))

pub returns-in_err-check_run : goal.returns-in_err-check_run
returns-in_err-check_run g c =
    let g = beside_of c.self.inside.settings c.self.inside.drawn c.self.inside.backups in
    let es = c.self.inside.by_name.entries in
    let told = err_from_is_err_and c.from_residual.result c.from_residual.ensures.1 in
    record {
      between = subst (λ st. ReplicatesBetween ReplicatesByPool st c.args.source.now c.args.target.now c.args.plan.now c.from_residual.result st) c.self.view_is (subst (λ r. ReplicatesBetween ReplicatesByPool (state_of g es) c.args.source.now c.args.target.now c.args.plan.now r (state_of g es)) (sym (told.1 ∙ ap Err told.2)) (run_refused (state_of g es) c.args.source.now c.args.target.now _ _ c.args.plan.now (at_of es c.args.source.now (Some c.find_both.result.0.now) c.find_both.ensures.source) (at_of es c.args.target.now (Some c.find_both.result.1.now) c.find_both.ensures.target) (c.self.invariant.2.1 c.args.target.now _ (at_of es c.args.target.now (Some c.find_both.result.1.now) c.find_both.ensures.target)).0.sessions c.in_err-check_run.field-0.0 (sym c.in_err-check_run.ensures)));
      covered = rw told.1 tt;
    }

pub invariant_of-self : goal.invariant_of-self
invariant_of-self g c =
    let g = beside_of c.self.inside.settings c.self.inside.drawn c.self.inside.backups in
    let es = c.self.inside.by_name.entries in
    let out = c.take_out-sender in
    let left = out.ensures.left in
    stored_both g es out.new.names.entries c.put_in.new.names.entries c.args.source.now c.args.target.now left.0 left.1 out.result.0 out.result.1 c.run-sender.result.source c.run-sender.result.target left.2 c.put_in.ensures out.ensures.source out.ensures.target c.self.inside.uuids.keys (names_apart (entry_at es) (λ x. x.1.db.uuid) c.args.source.now c.args.target.now _ _ c.find_both.ensures.source c.find_both.ensures.target (run_apart c.find_both.result.0.now.1 c.find_both.result.1.now.1 c.args.plan.now (sym c.in_ok-check_run.ensures))) c.run-sender.ensures.runs.filter c.run-sender.ensures.runs.grown.0
    c.law.ensures.peer c.law.ensures.database c.law-2.ensures.peer c.law-2.ensures.database _ c.args.plan.now (run_leaves _ _ _ _ _ _ _ _ _ _ c.run-sender.ensures.runs) (c.run-sender.ensures.runs.later) c.self.invariant

pub returns : goal.returns
returns g c =
    let g = beside_of c.self.inside.settings c.self.inside.drawn c.self.inside.backups in
    let es = c.self.inside.by_name.entries in
    let out = c.take_out-sender in
    let left = out.ensures.left in
    let s = out.result.0 in
    let t = out.result.1 in
    let ran = c.run-sender.result in
    let is = state_left g es out.new.names.entries c.put_in.new.names.entries c.args.source.now c.args.target.now left.0 left.1 s t ran.source ran.target left.2 c.put_in.ensures out.ensures.source out.ensures.target in
    let between =
    subst (λ (st : State). ReplicatesBetween ReplicatesByPool st c.args.source.now c.args.target.now c.args.plan.now ran.outcome (state_of g c.put_in.new.names.entries)) c.self.view_is
    (s.1, t.1, at_of es c.args.source.now (Some s) out.ensures.source, at_of es c.args.target.now (Some t) out.ensures.target, (ran.source.1, ran.target.1, ran.fetched.items, run_denied ⊥ Nowhere c.args.plan.now g.program.deny s t ran.source ran.target ran.fetched.items ran.outcome (refuses_is g.program.deny t.0 (c.self.invariant.0 c.args.target.now t out.ensures.target)) c.run-sender.ensures.runs, is)) in
    record { between = between; covered = pool_between _ _ (subst IsConsistent c.self.view_is c.self.invariant.2) _ _ _ _ between }
