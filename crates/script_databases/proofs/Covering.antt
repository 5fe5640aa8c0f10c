-- A successful replication between two databases brings the source's selected feed to the target, and a failed one fails
-- with an expected error.
use Rattle.proof_prelude.proofs.{◌≡◌, ◌≢◌, inl, inr, ℕ, same_Some, List, Result, Ok, Err, refl, sym, ap, subst, ◌∙◌, Some, IfOk, IfOk-weaker, IfErr}
use Rattle.doc_json.specs.{Choice}
use Rattle.couch_base.specs.{DatabaseValue, LawfulDatabase}
use Rattle.repl_peer.specs.{TargetFault, PeerValue, Report}
use Rattle.repl_target.specs.{Plan, IsExpected, IsTiedPair, Leaves, CoversFeed, Replicates, ended}
use Rattle.repl_target.proofs.{both_meet, replicates_leaves}
use Rattle.repl_peer.proofs.lemmas.peer.TrustedPeers.{covered_accounted}
use Rattle.repl_pool.proofs.{run_leaves}
use Rattle.pool_workers.specs.{PoolFault}
use Rattle.repl_pool.specs.{early_answer, EarlyOrLate, IsExpectedRun, RunsOn}
use Rattle.script_databases.specs.{State, peer_at, with_peer, with_both, Nowhere, deny_refuses, ReplicatesAlone, ReplicatesBetween, ReplicatesByPool, ReplicatesWatched, unwatched, AccountsUpTo, CoversUpTo, IsConsistent, MeetsAfter, Watched}
use Rattle.script_databases.proofs.Networks.{here, elsewhere, tied_pair}
use Rattle.script_databases.proofs.ReplicationLemmas.{plan_apart, run_apart}
use Rattle.script_databases.proofs.Tables.{names_apart}

-- a successful replication between two databases
pub record Brings (old : State) (a b : List ℕ) (s t : PeerValue) (plan : Plan) (n : ℕ) (new : State) : Type 0 where
  pub source : PeerValue
  pub target : PeerValue
  pub apart : s.db.uuid ≢ t.db.uuid
  pub leaves : Leaves (deny_refuses old.program.deny) s t plan source target
  pub recorded : n ≡ s.db.update_seq
  pub whole : CoversFeed s target plan.chosen s.db.update_seq
  pub state : new ≡ with_both old a b source target

ran_apart : {F : Type 0} (full : Type 0) (s t : F × PeerValue) (plan : Plan) (report : Report) (s' t' : F × PeerValue) (fetched : List ℕ) → EarlyOrLate full Nowhere (early_answer s.1 t.1 plan) s t s' t' fetched (Ok report) → s.1.db.uuid ≢ t.1.db.uuid
ran_apart {F = F} full s t plan report s' t' fetched early = go (early_answer s.1 t.1 plan) refl early
  where
    go : (r : Result (Unit {0}) PoolFault) → early_answer s.1 t.1 plan ≡ r → EarlyOrLate full Nowhere r s t s' t' fetched (Ok report) → s.1.db.uuid ≢ t.1.db.uuid
    go (Err why) e h = (let no : Ok report ≡ Err why = h.0 in cc)
    go (Ok done) e h = run_apart s.1 t.1 plan e

-- a successful replication by one thread has two different peers
alone_apart : (s t : PeerValue) (plan : Plan) (report : Report) (s' t' : PeerValue) (old : State) → Replicates (deny_refuses old.program.deny) s t plan (Ok report) s' t' → s.db.uuid ≢ t.db.uuid
alone_apart s t plan report s' t' old (ended read planned begun reads closes) = plan_apart s.db.uuid t.db.uuid plan planned

module _ (old : State) (h : IsConsistent old) (a b : List ℕ) (s t : PeerValue) (at_s : peer_at old a ≡ Some s) (at_t : peer_at old b ≡ Some t) (plan : Plan) where
  pair : IsTiedPair s t plan.chosen
  pair = tied_pair old h a b s t at_s at_t plan.chosen

  -- what is covered is at its name
  pub brought : (n : ℕ) (new : State) → Brings old a b s t plan n new → CoversUpTo new a b plan.chosen n
  brought n new k =
      let two = names_apart (peer_at old) (λ x. x.db.uuid) a b s t at_s at_t k.apart in
      let own : k.source.db ≡ s.db = ap (λ (x : PeerValue). x.db) k.leaves.log in
      subst (λ st. CoversUpTo st a b plan.chosen n) (sym k.state) (
        k.source,
        k.target,
        elsewhere (with_peer old a k.source) b k.target a two ∙ here old a k.source,
        here (with_peer old a k.source) b k.target,
        k.recorded ∙ ap (λ (d : DatabaseValue). d.update_seq) (sym own),
        subst (λ (x : PeerValue). CoversFeed x k.target plan.chosen n) (sym k.leaves.log) (subst (CoversFeed s k.target plan.chosen) (sym k.recorded) k.whole),
      )

  -- ---- by one thread

  pub alone_brings : (result : Result Report TargetFault) (new : State) → ReplicatesAlone old a b s t plan result new → IfOk result (λ report. Brings old a b s t plan report.recorded new)
  alone_brings (Err why) new ran = tt
  alone_brings (Ok report) new (s', t', replicates, keeps, is) = record {
    source = s';
    target = t';
    apart = alone_apart s t plan report s' t' old replicates;
    leaves = replicates_leaves (deny_refuses old.program.deny) s t plan (Ok report) s' t' replicates keeps.log keeps.tied keeps.others;
    recorded = keeps.well.recorded;
    whole = keeps.whole pair;
    state = is;
  }

  pub alone_fails : (result : Result Report TargetFault) (new : State) → ReplicatesAlone old a b s t plan result new → IfErr result (IsExpected s t plan)
  alone_fails (Ok report) new ran = tt
  alone_fails (Err why) new (s', t', replicates, keeps, is) = keeps.expected pair

  -- ---- by the pool

  module _ (full : Type 0) (s' t' : PeerValue) (fetched : List ℕ) (new : State) (is : new ≡ with_both old a b s' t') where
    run_brings : (outcome : Result Report PoolFault) → RunsOn deny_refuses full Nowhere plan (old.program.deny, s) (old.program.deny, t) (old.program.deny, s') (old.program.deny, t') fetched outcome → IfOk outcome (λ report. Brings old a b s t plan report.recorded new)
    run_brings (Err why) runs = tt
    run_brings (Ok report) runs = record {
      source = s';
      target = t';
      apart = ran_apart full (old.program.deny, s) (old.program.deny, t) plan report (old.program.deny, s') (old.program.deny, t') fetched runs.early;
      leaves = run_leaves _ _ _ _ _ _ _ _ _ _ runs;
      recorded = runs.well.reported.recorded;
      whole = runs.whole pair;
      state = is;
    }

    run_fails : (outcome : Result Report PoolFault) → RunsOn deny_refuses full Nowhere plan (old.program.deny, s) (old.program.deny, t) (old.program.deny, s') (old.program.deny, t') fetched outcome → IfErr outcome (IsExpectedRun full Nowhere s t plan)
    run_fails (Ok report) runs = tt
    run_fails (Err why) runs = runs.expected pair

  pub pool_brings : (result : Result Report PoolFault) (new : State) → ReplicatesByPool old a b s t plan result new → IfOk result (λ report. Brings old a b s t plan report.recorded new)
  pool_brings result new (s', t', fetched, runs, is) = run_brings ⊥ s' t' fetched new is result runs

  pub pool_fails : (result : Result Report PoolFault) (new : State) → ReplicatesByPool old a b s t plan result new → IfErr result (IsExpectedRun ⊥ Nowhere s t plan)
  pool_fails result new (s', t', fetched, runs, is) = run_fails ⊥ s' t' fetched new is result runs

  pub watched_brings : (result : Result Watched PoolFault) (new : State) → ReplicatesWatched old a b s t plan result new → IfOk (unwatched result) (λ report. Brings old a b s t plan report.recorded new)
  watched_brings result new (inl (early, none, is)) = subst (λ (r : Result Watched PoolFault). IfOk (unwatched r) (λ report. Brings old a b s t plan report.recorded new)) (sym none) tt
  watched_brings result new (inr (few, s', t', fetched, runs, is)) = run_brings (Unit {0}) s' t' fetched new is (unwatched result) runs

  pub watched_fails : (result : Result Watched PoolFault) (new : State) → ReplicatesWatched old a b s t plan result new → IfErr (unwatched result) (IsExpectedRun (Unit {0}) Nowhere s t plan)
  watched_fails result new (inl (early, none, is)) = subst (λ (r : Result Watched PoolFault). IfErr (unwatched r) (IsExpectedRun (Unit {0}) Nowhere s t plan)) (sym none) tt
  watched_fails result new (inr (few, s', t', fetched, runs, is)) = run_fails (Unit {0}) s' t' fetched new is (unwatched result) runs

-- what is covered is accounted for, since the target is lawful
pub accounts : (s : State) → IsConsistent s → (a b : List ℕ) (c : Choice) (n : ℕ) → CoversUpTo s a b c n → AccountsUpTo s a b c n
accounts s h a b c n (p, q, at, at', is, covers) = (p, q, at, at', λ row m leaf k. covered_accounted (deny_refuses s.program.deny) q (h.1 b q at').0.sessions row.id leaf (covers row m leaf k))

-- a second replication in the other direction, after a first one; `begun` and `begun'` are the states that the two start in
pub brings_meet : (old begun mid begun' new : State) → IsConsistent old → IsConsistent mid → IsConsistent new → (a b : List ℕ) (s t x y : PeerValue) → peer_at old a ≡ Some s → peer_at old b ≡ Some t → peer_at mid b ≡ Some x → peer_at mid a ≡ Some y
    → (there back : Plan) (n k : ℕ) → Brings begun a b s t there n mid → Brings begun' b a x y back k new → MeetsAfter old new a b there.chosen back.chosen
brings_meet old begun mid begun' new h h' h'' a b s t x y at_s at_t at_x at_y there back n k first second =
    let two = names_apart (peer_at old) (λ p. p.db.uuid) a b s t at_s at_t first.apart in
    let is : x ≡ first.target = same_Some x first.target (sym at_x ∙ ap (λ st. peer_at st b) first.state ∙ here (with_peer begun a first.source) b first.target) in
    let is' : y ≡ first.source = same_Some y first.source (sym at_y ∙ ap (λ st. peer_at st a) first.state ∙ elsewhere (with_peer begun a first.source) b first.target a two ∙ here begun a first.source) in
    let refuses = deny_refuses begun'.program.deny in
    let leaves = subst (λ q. Leaves refuses first.target q back second.source second.target) is' (subst (λ p. Leaves refuses p y back second.source second.target) is second.leaves) in
    let whole = subst (λ (p : PeerValue). CoversFeed p second.target back.chosen p.db.update_seq) is second.whole in
    let law = subst (λ (p : PeerValue). LawfulDatabase p.db) is (h'.1 b x at_x).1 in
    let at_a = ap (λ st. peer_at st a) second.state ∙ here (with_peer begun' b second.source) a second.target in
    let at_b = ap (λ st. peer_at st b) second.state ∙ elsewhere (with_peer begun' b second.source) a second.target b (λ e. two (sym e)) ∙ here begun' b second.source in
    let meet =
    both_meet refuses (deny_refuses begun.program.deny) s t first.source first.target second.target second.source there back (h.1 a s at_s).1 law (h''.1 a second.target at_a).1 first.leaves leaves (λ _. first.whole) (λ _. whole)
    (tied_pair old h a b s t at_s at_t there.chosen) (tied_pair old h b a t s at_t at_s back.chosen) in
    (s, t, second.target, second.source, at_s, at_t, at_a, at_b, meet)

-- ---- between two names

watched_report : (r : Result Watched PoolFault) (P : Report → Type 0) → IfOk (unwatched r) P → IfOk r (λ w. P w.report)
watched_report (Ok w) P h = h
watched_report (Err why) P h = tt

module _ (old new : State) (h : IsConsistent old) (a b : List ℕ) (plan : Plan) where
  pub alone_between : (result : Result Report TargetFault) → ReplicatesBetween ReplicatesAlone old a b plan result new → IfOk result (λ report. CoversUpTo new a b plan.chosen report.recorded)
  alone_between result (s, t, at_s, at_t, ran) = IfOk-weaker result (λ report. Brings old a b s t plan report.recorded new) (λ report. CoversUpTo new a b plan.chosen report.recorded) (λ report. brought old h a b s t at_s at_t plan report.recorded new) (alone_brings old h a b s t at_s at_t plan result new ran)

  pub pool_between : (result : Result Report PoolFault) → ReplicatesBetween ReplicatesByPool old a b plan result new → IfOk result (λ report. CoversUpTo new a b plan.chosen report.recorded)
  pool_between result (s, t, at_s, at_t, ran) = IfOk-weaker result (λ report. Brings old a b s t plan report.recorded new) (λ report. CoversUpTo new a b plan.chosen report.recorded) (λ report. brought old h a b s t at_s at_t plan report.recorded new) (pool_brings old h a b s t at_s at_t plan result new ran)

  pub watched_between : (result : Result Watched PoolFault) → ReplicatesBetween ReplicatesWatched old a b plan result new → IfOk result (λ watched. CoversUpTo new a b plan.chosen watched.report.recorded)
  watched_between result (s, t, at_s, at_t, ran) =
      watched_report result (λ report. CoversUpTo new a b plan.chosen report.recorded) (IfOk-weaker (unwatched result) (λ report. Brings old a b s t plan report.recorded new) (λ report. CoversUpTo new a b plan.chosen report.recorded) (λ report. brought old h a b s t at_s at_t plan report.recorded new) (watched_brings old h a b s t at_s at_t plan result new ran))
