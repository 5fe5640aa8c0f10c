-- Replications between two of the databases.
use Rattle.proof_prelude.proofs.{◌≡◌, ◌≢◌, inl, inr, ℕ, Bool, false, ◌==◌, List, [], Option, Some, Result, Ok, Err, refl, sym, ap, subst, ◌∙◌, arith, common_steps, eqb-false}
use Rattle.doc_json.specs.Document.{Document}
use Rattle.couch_base.specs.{LawfulDatabase}
use Rattle.repl_peer.specs.{IsLaterPeer, Lawful, LawfulSessions, PeerValue, rules_refuse, Report, TargetFault, Rules}
use Rattle.repl_peer.proofs.{IsLaterPeer-same}
use Rattle.repl_target.specs.{IsLeft, Leaves, not_planned, plan_answer, Plan}
use Rattle.repl_target.proofs.{others_same, plan_expected}
use Rattle.pool_workers.specs.{PoolFault, Place}
use Rattle.repl_pool.specs.{early_answer, EarlyOrLate, LeavesOrPuts, RunsOn}
use Rattle.repl_pool.proofs.{runs_early}
use Rattle.script_databases.specs.{State, peer_at, with_peer, Nowhere, ReplicatesAlone, ReplicatesBetween, ReplicatesByPool, ReplicatesWatched, deny_refuses, with_both, Beside, Entries, IsConsistent, IsIndex, IsStored, IsWithBoth, deny_of, entry_at, state_of}
use Rattle.script_databases.proofs.Tables.{at_of, both_over, deny_both, lawful_of, peer_same, state_both}
use Rattle.script_databases.proofs.Networks.{index_both, replicated_step}

-- ---- a valid plan is one between two names

pub plan_apart : (u v : ℕ) (plan : Plan) → plan_answer u v plan ≡ Ok tt → u ≢ v
plan_apart u v plan h = (let differ : (u == v) ≡ false = grind (arith, common_steps) in eqb-false u v differ)

pub run_apart : (p q : PeerValue) (plan : Plan) → early_answer p q plan ≡ Ok tt → p.db.uuid ≢ q.db.uuid
run_apart p q plan h = (let differ : (p.db.uuid == q.db.uuid) ≡ false = grind (arith, common_steps) in eqb-false p.db.uuid q.db.uuid differ)

-- ---- a run between two filters is a run between what they refuse

-- an early error changes neither peer
early_denied : (full : Type 0) (may : Place → Type 0) (answer : Result (Unit {0}) PoolFault) (deny : Option (List ℕ)) (s t s' t' : Rules × PeerValue) (fetched : List ℕ) (outcome : Result Report PoolFault) → EarlyOrLate full may answer s t s' t' fetched outcome →
    EarlyOrLate full may answer (deny, s.1) (deny, t.1) (deny, s'.1) (deny, t'.1) fetched outcome
early_denied full may (Err why) deny s t s' t' fetched outcome h = (h.0, ap (λ (p : Rules × PeerValue). (deny, p.1)) h.1, ap (λ (p : Rules × PeerValue). (deny, p.1)) h.2, h.3)
early_denied full may (Ok done) deny s t s' t' fetched outcome h = h

leaves_denied : (deny : Option (List ℕ)) (plan : Plan) (s t s' t' : Rules × PeerValue) (outcome : Result Report PoolFault) → LeavesOrPuts plan s t s' t' outcome → LeavesOrPuts plan (deny, s.1) (deny, t.1) (deny, s'.1) (deny, t'.1) outcome
leaves_denied deny plan s t s' t' outcome (inl h) = inl (ap (λ (p : Rules × PeerValue). (deny, p.1)) h.0, ap (λ (p : Rules × PeerValue). (deny, p.1)) h.1, h.2)
leaves_denied deny plan s t s' t' outcome (inr h) = inr h

pub run_denied : (full : Type 0) (may : Place → Type 0) (plan : Plan) (deny : Option (List ℕ)) (s t s' t' : Rules × PeerValue) (fetched : List ℕ) (outcome : Result Report PoolFault) → rules_refuse t.0 ≡ deny_refuses deny → RunsOn rules_refuse full may plan s t s' t' fetched outcome →
    RunsOn deny_refuses full may plan (deny, s.1) (deny, t.1) (deny, s'.1) (deny, t'.1) fetched outcome
run_denied full may plan deny s t s' t' fetched outcome same runs = record {
  early = early_denied full may (early_answer s.1 t.1 plan) deny s t s' t' fetched outcome runs.early;
  filter = refl;
  log = runs.log;
  grown = (refl, subst (λ f. IsLeft f s.1 t.1 plan t'.1) same runs.grown.1);
  later = runs.later;
  tied = runs.tied;
  others = runs.others;
  audited = runs.audited;
  put = leaves_denied deny plan s t s' t' outcome runs.put;
  expected = runs.expected;
  well = runs.well;
  whole = runs.whole;
}

-- ---- a plan that is rejected at the start

module _ (old : State) (a b : List ℕ) (s t : PeerValue) (plan : Plan) (at_s : peer_at old a ≡ Some s) (at_t : peer_at old b ≡ Some t) where
  kept : old ≡ with_both old a b s t
  kept = sym (ap (λ x. with_peer x b t) (peer_same old a s at_s) ∙ peer_same old b t at_t)

  pub alone_refused : (why : TargetFault) → plan_answer s.db.uuid t.db.uuid plan ≡ Err why → ReplicatesBetween ReplicatesAlone old a b plan (Err why) old
  alone_refused why refused = (s, t, at_s, at_t, (s, t, not_planned refused, record { log = refl; later = IsLaterPeer-same t; tied = λ chosen backups h. h; others = others_same s t; well = tt; whole = tt; expected = λ tied. plan_expected s t plan why refused }, kept))

  module _ (lawful : LawfulSessions (deny_refuses old.program.deny) t) (why : PoolFault) (refused : early_answer s t plan ≡ Err why) where
    pub run_refused : ReplicatesBetween ReplicatesByPool old a b plan (Err why) old
    run_refused = (s, t, at_s, at_t, (s, t, [], runs_early deny_refuses ⊥ Nowhere plan (old.program.deny, s) (old.program.deny, t) [] why lawful refused refl, kept))

    pub watched_refused : ReplicatesBetween ReplicatesWatched old a b plan (Err why) old
    watched_refused = (s, t, at_s, at_t, inr (tt, s, t, [], runs_early deny_refuses (Unit {0}) Nowhere plan (old.program.deny, s) (old.program.deny, t) [] why lawful refused refl, kept))

-- ---- the stored databases after both peers were taken out and stored

module _ (g : Beside) (es mid new : Entries) (a b : List ℕ) (d e s t s' t' : Rules × PeerValue) (left : IsWithBoth es a b d e mid) (put : IsWithBoth mid a b s' t' new) (at_s : entry_at es a ≡ Some s) (at_t : entry_at es b ≡ Some t) where
  both : IsWithBoth es a b s' t' new
  both = both_over es mid new a b d e s' t' left put

  pub state_left : state_of g new ≡ with_both (state_of g es) a b s'.1 t'.1
  state_left = state_both g es new a b s' t' both

  pub stored_both : (uuids : List ℕ) → a ≢ b → s'.0 ≡ s.0 → t'.0 ≡ t.0 → Lawful (rules_refuse s'.0) s'.1 → LawfulDatabase s'.1.db → Lawful (rules_refuse t'.0) t'.1 → LawfulDatabase t'.1.db
      → (refuses : Document → Bool) (plan : Plan) → Leaves refuses s.1 t.1 plan s'.1 t'.1 → IsLaterPeer t.1 t'.1 → IsStored g es uuids → IsStored g new uuids
  stored_both uuids two same same' law db law' db' refuses plan leaves later stored =
      let own = ap deny_of same ∙ stored.0 a s at_s in
      let own' = ap deny_of same' ∙ stored.0 b t at_t in
      let at = at_of es a (Some s) at_s in
      let at' = at_of es b (Some t) at_t in (
        deny_both g es new a b s' t' both g.program.deny own own' stored.0,
        subst (λ st. IsIndex (peer_at st) uuids) (sym state_left) (index_both (state_of g es) a b s.1 t.1 s'.1 t'.1 two at at' refuses plan leaves later uuids stored.1),
        subst IsConsistent (sym state_left)
            (replicated_step (state_of g es) a b s.1 t.1 s'.1 t'.1 two at at' refuses plan leaves later stored.2 (lawful_of g.program.deny s' own law, db) (lawful_of g.program.deny t' own' law', db')),
      )
