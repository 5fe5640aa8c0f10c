use Rattle.proof_prelude.proofs.{Result, Err, Some, inl, inr, refl, sym, ap, subst, ◌∙◌, err_from_is_err_and}
use Rattle.repl_peer.specs.{Report}
use Rattle.pool_workers.specs.{PoolFault}
use Rattle.repl_pool.specs.{RunsOn}
use Rattle.repl_pool.proofs.{run_leaves}
use Rattle.script_databases.specs.{IsConsistent, State, Nowhere, ReplicatesBetween, ReplicatesWatched, beside_of, deny_refuses, entry_at, state_of}
use Rattle.script_databases.proofs.{at_of, names_apart, refuses_is, run_apart, run_denied, state_left, stored_both, watched_between, watched_refused}
use Rattle.script_databases.proofs.databases.Databases.replicate_watched.Goals as goal

pub take_out-sender-requires-clause-two : goal.take_out-sender-requires-clause-two
take_out-sender-requires-clause-two g c =
    names_apart (entry_at c.self.inside.by_name.entries) (λ x. x.1.db.uuid) c.args.source.now c.args.target.now _ _ c.find_both.ensures.source c.find_both.ensures.target (run_apart c.find_both.result.0.now.1 c.find_both.result.1.now.1 c.args.plan.now (sym c.in_ok-check_run.ensures))

pub returns-in_err-check_run : goal.returns-in_err-check_run
returns-in_err-check_run g c =
    let g = beside_of c.self.inside.settings c.self.inside.drawn c.self.inside.backups in
    let es = c.self.inside.by_name.entries in
    let told = err_from_is_err_and c.from_residual.result c.from_residual.ensures.1 in
    record {
      between = subst (λ st. ReplicatesBetween ReplicatesWatched st c.args.source.now c.args.target.now c.args.plan.now c.from_residual.result st) c.self.view_is (subst (λ r. ReplicatesBetween ReplicatesWatched (state_of g es) c.args.source.now c.args.target.now c.args.plan.now r (state_of g es)) (sym (told.1 ∙ ap Err told.2)) (watched_refused (state_of g es) c.args.source.now c.args.target.now _ _ c.args.plan.now (at_of es c.args.source.now (Some c.find_both.result.0.now) c.find_both.ensures.source) (at_of es c.args.target.now (Some c.find_both.result.1.now) c.find_both.ensures.target) (c.self.invariant.2.1 c.args.target.now _ (at_of es c.args.target.now (Some c.find_both.result.1.now) c.find_both.ensures.target)).0.sessions c.in_err-check_run.field-0.0 (sym c.in_err-check_run.ensures)));
      covered = rw told.1 tt;
    }

pub returns-in_err-board : goal.returns-in_err-board
returns-in_err-board g c =
    let es = c.self.inside.by_name.entries in
    let told = err_from_is_err_and c.from_residual-in_err-board.result c.from_residual-in_err-board.ensures.1 in
    let at_s = at_of es c.args.source.now (Some c.find_both.result.0.now) c.find_both.ensures.source in
    let at_t = at_of es c.args.target.now (Some c.find_both.result.1.now) c.find_both.ensures.target in
    record {
      between = subst (λ st. ReplicatesBetween ReplicatesWatched st c.args.source.now c.args.target.now c.args.plan.now c.from_residual-in_err-board.result st) c.self.view_is
          (_, _, at_s, at_t, inl (sym c.in_ok-check_run.ensures, told.1 ∙ ap Err (told.2 ∙ c.in_err-board.ensures.err), refl));
      covered = rw told.1 tt;
    }

pub invariant_of-self : goal.invariant_of-self
invariant_of-self g c =
    let g = beside_of c.self.inside.settings c.self.inside.drawn c.self.inside.backups in
    let es = c.self.inside.by_name.entries in
    let out = c.take_out-sender in
    let left = out.ensures.left in
    stored_both g es out.new.names.entries c.put_in.new.names.entries c.args.source.now c.args.target.now left.0 left.1 out.result.0 out.result.1 c.run_on-sender.result.source c.run_on-sender.result.target left.2 c.put_in.ensures out.ensures.source out.ensures.target c.self.inside.uuids.keys (names_apart (entry_at es) (λ x. x.1.db.uuid) c.args.source.now c.args.target.now _ _ c.find_both.ensures.source c.find_both.ensures.target (run_apart c.find_both.result.0.now.1 c.find_both.result.1.now.1 c.args.plan.now (sym c.in_ok-check_run.ensures))) c.run_on-sender.ensures.runs.filter c.run_on-sender.ensures.runs.grown.0
    c.law.ensures.peer c.law.ensures.database c.law-2.ensures.peer c.law-2.ensures.database _ c.args.plan.now (run_leaves _ _ _ _ _ _ _ _ _ _ c.run_on-sender.ensures.runs) (c.run_on-sender.ensures.runs.later) c.self.invariant

pub returns : goal.returns
returns g c =
    let g = beside_of c.self.inside.settings c.self.inside.drawn c.self.inside.backups in
    let es = c.self.inside.by_name.entries in
    let out = c.take_out-sender in
    let left = out.ensures.left in
    let s = out.result.0 in
    let t = out.result.1 in
    let ran = c.run_on-sender.result in
    let is = state_left g es out.new.names.entries c.put_in.new.names.entries c.args.source.now c.args.target.now left.0 left.1 s t ran.source ran.target left.2 c.put_in.ensures out.ensures.source out.ensures.target in
    let between =
    subst (λ (st : State). ReplicatesBetween ReplicatesWatched st c.args.source.now c.args.target.now c.args.plan.now c.with_reading.result (state_of g c.put_in.new.names.entries)) c.self.view_is
    (s.1, t.1, at_of es c.args.source.now (Some s) out.ensures.source, at_of es c.args.target.now (Some t) out.ensures.target, (inr (c.with_reading.ensures.shown, ran.source.1, ran.target.1, ran.fetched.items, subst (λ (o : Result Report PoolFault). RunsOn deny_refuses (Unit {0}) Nowhere c.args.plan.now (g.program.deny, s.1) (g.program.deny, t.1) (g.program.deny, ran.source.1) (g.program.deny, ran.target.1) ran.fetched.items o) (sym c.with_reading.ensures.outcome) (run_denied (Unit {0}) Nowhere c.args.plan.now g.program.deny s t ran.source ran.target ran.fetched.items ran.outcome (refuses_is g.program.deny t.0 (c.self.invariant.0 c.args.target.now t out.ensures.target)) c.run_on-sender.ensures.runs), is))) in
    record { between = between; covered = watched_between _ _ (subst IsConsistent c.self.view_is c.self.invariant.2) _ _ _ _ between }
