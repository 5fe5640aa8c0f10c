use Rattle.proof_prelude.proofs.{Err, Some, sym, ap, subst, ◌∙◌, err_from_is_err_and}
use Rattle.repl_target.specs.{Replicates}
use Rattle.repl_target.proofs.{left_law, replicates_leaves, replicates_left}
use Rattle.script_databases.specs.{IsConsistent, State, ReplicatesAlone, ReplicatesBetween, beside_of, entry_at, state_of}
use Rattle.script_databases.proofs.{alone_between, alone_refused, at_of, names_apart, plan_apart, refuses_is, state_left, stored_both}
use Rattle.script_databases.proofs.databases.Databases.replicate_alone.Goals as goal

pub take_out-sender-requires-clause-two : goal.take_out-sender-requires-clause-two
take_out-sender-requires-clause-two c =
    names_apart (entry_at c.self.inside.by_name.entries) (λ x. x.1.db.uuid) c.args.source.now c.args.target.now _ _ c.find_both.ensures.source c.find_both.ensures.target (plan_apart _ _ c.args.plan.now (sym c.in_ok-check_peers.ensures))

pub returns-in_err-check_peers : goal.returns-in_err-check_peers
returns-in_err-check_peers c =
    let g = beside_of c.self.inside.settings c.self.inside.drawn c.self.inside.backups in
    let es = c.self.inside.by_name.entries in
    let told = err_from_is_err_and c.from_residual.result c.from_residual.ensures.1 in
    record {
      between = subst (λ st. ReplicatesBetween ReplicatesAlone st c.args.source.now c.args.target.now c.args.plan.now c.from_residual.result st) c.self.view_is (subst (λ r. ReplicatesBetween ReplicatesAlone (state_of g es) c.args.source.now c.args.target.now c.args.plan.now r (state_of g es)) (sym (told.1 ∙ ap Err told.2)) (alone_refused (state_of g es) c.args.source.now c.args.target.now _ _ c.args.plan.now (at_of es c.args.source.now (Some c.find_both.result.0.now) c.find_both.ensures.source) (at_of es c.args.target.now (Some c.find_both.result.1.now) c.find_both.ensures.target) c.in_err-check_peers.field-0.0 (sym c.in_err-check_peers.ensures)));
      covered = rw told.1 tt;
    }

pub invariant_of-self : goal.invariant_of-self
invariant_of-self c =
    let g = beside_of c.self.inside.settings c.self.inside.drawn c.self.inside.backups in
    let es = c.self.inside.by_name.entries in
    let out = c.take_out-sender in
    let left = out.ensures.left in
    stored_both g es out.new.names.entries c.put_in.new.names.entries c.args.source.now c.args.target.now left.0 left.1 out.result.0 out.result.1 c.replicate_alone-outcome.new.source c.replicate_alone-outcome.new.target left.2 c.put_in.ensures out.ensures.source out.ensures.target c.self.inside.uuids.keys (names_apart (entry_at es) (λ x. x.1.db.uuid) c.args.source.now c.args.target.now _ _ c.find_both.ensures.source c.find_both.ensures.target (plan_apart _ _ c.args.plan.now (sym c.in_ok-check_peers.ensures))) c.replicate_alone-outcome.ensures.filters.0 c.replicate_alone-outcome.ensures.filters.1
    c.law-3.ensures.peer c.law-3.ensures.database c.law-4.ensures.peer c.law-4.ensures.database _ c.args.plan.now (replicates_leaves _ out.result.0.1 out.result.1.1 c.args.plan.now c.replicate_alone-outcome.result c.replicate_alone-outcome.new.source.1 c.replicate_alone-outcome.new.target.1 c.replicate_alone-outcome.ensures.replicates c.replicate_alone-outcome.ensures.source c.replicate_alone-outcome.ensures.tied c.replicate_alone-outcome.ensures.others) ((left_law _ out.result.0.1 out.result.1.1 c.args.plan.now c.replicate_alone-outcome.new.target.1 c.law.ensures.database c.law-2.ensures.peer.sessions (replicates_left _ out.result.0.1 out.result.1.1 c.args.plan.now c.replicate_alone-outcome.result c.replicate_alone-outcome.new.source.1 c.replicate_alone-outcome.new.target.1 c.replicate_alone-outcome.ensures.replicates)).1) c.self.invariant

pub returns : goal.returns
returns c =
    let g = beside_of c.self.inside.settings c.self.inside.drawn c.self.inside.backups in
    let es = c.self.inside.by_name.entries in
    let out = c.take_out-sender in
    let left = out.ensures.left in
    let s = out.result.0 in
    let t = out.result.1 in
    let s' = c.replicate_alone-outcome.new.source in
    let t' = c.replicate_alone-outcome.new.target in
    let e = c.replicate_alone-outcome.ensures in
    let is = state_left g es out.new.names.entries c.put_in.new.names.entries c.args.source.now c.args.target.now left.0 left.1 s t s' t' left.2 c.put_in.ensures out.ensures.source out.ensures.target in
    let between =
    subst (λ (st : State). ReplicatesBetween ReplicatesAlone st c.args.source.now c.args.target.now c.args.plan.now c.replicate_alone-outcome.result (state_of g c.put_in.new.names.entries)) c.self.view_is
    (s.1, t.1, at_of es c.args.source.now (Some s) out.ensures.source, at_of es c.args.target.now (Some t) out.ensures.target, (s'.1, t'.1, subst (λ f. Replicates f s.1 t.1 c.args.plan.now c.replicate_alone-outcome.result s'.1 t'.1) (refuses_is g.program.deny t.0 (c.self.invariant.0 c.args.target.now t out.ensures.target)) e.replicates, record { log = e.source; later = (left_law _ s.1 t.1 c.args.plan.now c.replicate_alone-outcome.new.target.1 c.law.ensures.database c.law-2.ensures.peer.sessions (replicates_left _ s.1 t.1 c.args.plan.now c.replicate_alone-outcome.result c.replicate_alone-outcome.new.source.1 c.replicate_alone-outcome.new.target.1 c.replicate_alone-outcome.ensures.replicates)).1; tied = e.tied; others = e.others; well = e.report; whole = e.whole; expected = e.expected }, is)) in
    record { between = between; covered = alone_between _ _ (subst IsConsistent c.self.view_is c.self.invariant.2) _ _ _ _ between }
