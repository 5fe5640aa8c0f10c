-- Two consistent peers of which one changes, and the replications of a peer's logs and sessions.
use Rattle.proof_prelude.proofs.{◌≡◌, ◌⊎◌, ℕ, false, List, [], ◌∷◌, Bool, Result, Ok, Err, ◌+◌, ◌<◌, ◌≤◌, refl, sym, ap, subst, ◌∙◌, inl, inr, arith, common_steps, cond_both}
use Rattle.doc_json.specs.Document.{Document}
use Rattle.doc_json.specs.{Choice}
use Rattle.couch_base.specs.{Among}
use Rattle.repl_log.specs.declared.replication.RepId.{RepId}
use Rattle.repl_log.specs.{EntryValue, with_entry, log_in, logs_with, same_rep, same_rep-is}
use Rattle.repl_peer.specs.{TargetFault, BackupValue, PeerValue, SessionValue, is_target, greater_life, restore_answer, restored, rep_between, source_log, put_by, put_entry_answer}
use Rattle.repl_target.specs.{AreTiedEntries, IsTiedWith, IsLeft, IsPut, Plan, Begin, beginning_between, after_begins}
use Rattle.repl_target.proofs.{Stays, call_keeps, each-kept, of_run, run_keeps, session-later, entry-later, entry-life, backups-later, backups-source, tied_source}
use Rattle.repl_network.specs.Network.{Writes}

-- ---- local writes

pub written_source : (p p' q : PeerValue) (c : Choice) → Writes p p' → (backups : List BackupValue) → IsTiedWith backups p q c → IsTiedWith backups p' q c
written_source p p' q c w backups h = record { pair = tied_source p p' q c w.later.db w.logs h.pair; copies = backups-source backups p p' q c w.later.db.uuid h.copies }

pub written_target : (p q q' : PeerValue) (c : Choice) → Writes q q' → (backups : List BackupValue) → IsTiedWith backups p q c → IsTiedWith backups p q' c
written_target p q q' c w backups h =
    let rep = rep_between p q c in
    let same : rep ≡ rep_between p q' c = λ i. record { source = p.db.uuid; target = sym w.later.db.uuid i; chosen = c } in
    record {
      pair = record {
        sessions = λ s m r. session-later c p.db q q' s w.later (h.pair.sessions s (subst (Among s) w.sessions m) (r ∙ sym same));
        log = subst (λ (x : RepId). AreTiedEntries p.db q' x (source_log p x)) same (λ e m. entry-later p.db q q' rep e w.later (h.pair.log e m));
      };
      copies = backups-later backups p q q' c w.later h.copies;
    }

-- ---- a restore

-- the requirements of a restore
pub record Restores (p : PeerValue) (b : BackupValue) : Type 0 where
  pub uuid : b.db.uuid ≡ p.db.uuid
  pub none : (s : SessionValue) → Among s p.sessions → ⊥

no_session : (ss : List SessionValue) → is_target ss ≡ false → (s : SessionValue) → Among s ss → ⊥
no_session [] e s m = absurd m
no_session (x ∷ ss) e s m = cc

pub restores_in : (p : PeerValue) (b : BackupValue) (done : Unit {0}) → restore_answer p b ≡ Ok done → Restores p b
restores_in p b done is = (let no : is_target p.sessions ≡ false = grind (arith, common_steps) in record { uuid = grind (arith, common_steps); none = no_session p.sessions no })

-- the source's new life is greater than all, and the log is the backup's
pub restored_source : (p : PeerValue) (b : BackupValue) (q : PeerValue) (c : Choice) → Restores p b → AreTiedEntries b.db q (rep_between p q c) (log_in b.outgoing (rep_between p q c)) → (backups : List BackupValue) → IsTiedWith backups p q c → IsTiedWith backups (restored p b) q c
restored_source p b q c k copied backups h =
    let rep = rep_between p q c in
    let new : PeerValue = restored p b in
    let life : ℕ = greater_life p b + 1 in
    let above : (n : ℕ) → n ≤ p.db.life → n < life = λ n less. omega (arith, less) in
    let same : rep ≡ rep_between new q c = λ i. record { source = sym k.uuid i; target = q.db.uuid; chosen = c } in
    record {
      pair = record {
        sessions = λ s m r.
            (let under = (h.pair.sessions s m (r ∙ sym same)).life in
            let below = above s.life under in
            record { life = omega (arith, below); windows = λ e. absurd (omega (arith, below, e)); start = λ e. absurd (omega (arith, below, e)) });
        log = subst (λ (x : RepId). AreTiedEntries new.db q x (log_in b.outgoing x)) same (λ e m. entry-life b.db life q rep e (copied e m));
      };
      copies = backups-source backups p new q c k.uuid h.copies;
    }

-- a target without a session has no entry that names one
pub restored_target : (q p : PeerValue) (b : BackupValue) (c : Choice) → Restores p b → (backups : List BackupValue) → IsTiedWith backups q p c → IsTiedWith backups q (restored p b) c
restored_target q p b c k backups h =
    let new : PeerValue = restored p b in
    let same : rep_between q new c ≡ rep_between q p c = λ i. record { source = q.db.uuid; target = k.uuid i; chosen = c } in
    record {
      pair = record {
        sessions = λ s m r. absurd (k.none s m);
        log = λ e m. (let t = h.pair.log e (subst (λ (x : RepId). Among e (source_log q x)) same m) in absurd (k.none t.session t.held));
      };
      copies = λ x n e m. (let t = h.copies x n e (subst (λ (y : RepId). Among e (log_in x.outgoing y)) same m) in absurd (k.none t.session t.held));
    }

-- ---- two peers without this replication

-- an entry of a log is in a log of that replication
log_member : (logs : List (RepId × List EntryValue)) (rep : RepId) (e : EntryValue) → Among e (log_in logs rep) → (l : RepId × List EntryValue) × Among l logs × (l.0 ≡ rep)
log_member [] rep e m = absurd m
log_member (l ∷ logs) rep e m =
    cond_both (same_rep rep l.0) l.1 (log_in logs rep) (λ (x : List EntryValue). Among e x → (k : RepId × List EntryValue) × Among k (l ∷ logs) × (k.0 ≡ rep))
    (λ t _. (l, inl refl, sym (same_rep-is rep l.0 t)))
    (λ _ n. let k = log_member logs rep e n in (k.0, inr k.1, k.2))
    m

pub none_tied : (p q : PeerValue) (c : Choice) → ((s : SessionValue) → Among s q.sessions → s.rep ≡ rep_between p q c → ⊥) → ((l : RepId × List EntryValue) → Among l p.outgoing → l.0 ≡ rep_between p q c → ⊥) → (backups : List BackupValue)
    → ((b : BackupValue) → Among b backups → (l : RepId × List EntryValue) → Among l b.outgoing → l.0 ≡ rep_between p q c → ⊥) → IsTiedWith backups p q c
none_tied p q c sessions logs backups copies =
    let rep = rep_between p q c in
    record {
      pair = record {
        sessions = λ s m r. absurd (sessions s m r);
        log = λ e m. (let l = log_member p.outgoing rep e m in absurd (logs l.0 l.1 l.2));
      };
      copies = λ b n e m. (let l = log_member b.outgoing rep e m in absurd (copies b n l.0 l.1 l.2));
    }

-- ---- the logs and the sessions after a replication

-- the logs belong to the previous replications, and to that one
logs_of : (logs : List (RepId × List EntryValue)) (rep : RepId) (e : EntryValue) (l : RepId × List EntryValue) → Among l (logs_with logs rep e) → ((k : RepId × List EntryValue) × Among k logs × (l.0 ≡ k.0)) ⊎ (l.0 ≡ rep)
logs_of [] rep e l (inl i) = inr (ap (λ (x : RepId × List EntryValue). x.0) i)
logs_of [] rep e l (inr m) = absurd m
logs_of (k ∷ logs) rep e l m =
    cond_both (same_rep rep k.0) ((k.0, with_entry k.1 e) ∷ logs) (k ∷ logs_with logs rep e) (λ (x : List (RepId × List EntryValue)). Among l x → ((j : RepId × List EntryValue) × Among j (k ∷ logs) × (l.0 ≡ j.0)) ⊎ (l.0 ≡ rep))
    (λ _ n. elim n [ inl i ↦ inl (k, inl refl, ap (λ (x : RepId × List EntryValue). x.0) i) | inr o ↦ inl (l, inr o, refl) ])
    (λ _ n. elim n [
      | inl i ↦ inl (k, inl refl, ap (λ (x : RepId × List EntryValue). x.0) i)
      | inr o ↦ elim (logs_of logs rep e l o) [ inl f ↦ inl (f.0, inr f.1, f.2) | inr is ↦ inr is ]
    ])
    m

-- a property of the UUID of the other peer
module _ (U : ℕ → Type 0) where
  abbrev Of : SessionValue → Type 0
  Of s = U s.rep.source

  of-stays : (s t : SessionValue) → Stays s t → Of s → Of t
  of-stays s t k h = subst (λ (r : RepId). U r.source) (sym k.rep) h

  pub left_of : (refuses : Document → Bool) (source target : PeerValue) (plan : Plan) (now : PeerValue) → IsLeft refuses source target plan now → U source.db.uuid → ((s : SessionValue) → Among s target.sessions → Of s) → (s : SessionValue) → Among s now.sessions → Of s
  left_of refuses source target plan now (inl same) own h = subst (λ (p : PeerValue). (s : SessionValue) → Among s p.sessions → Of s) (sym same) h
  left_of refuses source target plan now (inr left) own h =
      run_keeps refuses source.db plan.chosen plan.session (λ (p : PeerValue). (s : SessionValue) → Among s p.sessions → Of s)
      (each-kept Of of-stays refuses (of_run source.db plan.chosen plan.session) (λ _ _ _ _ k. k)) (after_begins source target plan) now left.1
      (call_keeps Of of-stays refuses target (Begin plan.session (beginning_between source target plan.chosen) plan.at) (λ _. own) h)

  pub put_logs : (source target : PeerValue) (chosen : Choice) (source' : PeerValue) → IsPut source target chosen source' → U target.db.uuid → ((l : RepId × List EntryValue) → Among l source.outgoing → U l.0.target)
      → (l : RepId × List EntryValue) → Among l source'.outgoing → U l.0.target
  put_logs source target chosen source' (inl same) own h = subst (λ (p : PeerValue). (l : RepId × List EntryValue) → Among l p.outgoing → U l.0.target) (sym same) h
  put_logs source target chosen source' (inr put) own h =
      subst (λ (p : PeerValue). (l : RepId × List EntryValue) → Among l p.outgoing → U l.0.target) (sym put.2) (go (put_entry_answer source (rep_between source target chosen) put.0))
    where
      go : (r : Result (Unit {0}) TargetFault) → (l : RepId × List EntryValue) → Among l (put_by source (rep_between source target chosen) put.0 r).outgoing → U l.0.target
      go (Err fault) = h
      go (Ok done) = λ l m. elim (logs_of source.outgoing (rep_between source target chosen) put.0 l m) [
        | inl k ↦ subst (λ (x : RepId). U x.target) (sym k.2) (h k.0 k.1)
        | inr is ↦ subst (λ (x : RepId). U x.target) (sym is) own
      ]
