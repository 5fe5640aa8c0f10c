-- Two tied peers stay tied, with the backups of the source.
use Rattle.proof_prelude.proofs.{◌≡◌, ℕ, ◌≤◌, Bool, true, false, cond, ◌⊎◌, List, [], ◌∷◌, Option, Some, None, Result, Ok, Err, refl, sym, ap, ◌∙◌, subst, inl, inr, arith, ◌==◌, cond_both, eqb-true}
use Rattle.rev_tree.specs.{SessionId}
use Rattle.doc_json.specs.Document.{Document}
use Rattle.doc_json.specs.{Choice}
use Rattle.couch_base.specs.{Among, DatabaseValue, LawfulDatabase, in_life, RowValue, WindowValue, chosen_feed, IsLater, Among-map, Among-push}
use Rattle.repl_log.specs.declared.replication.RepId.{RepId}
use Rattle.repl_log.specs.{EntryValue, is_of, holds, replaced, with_entry, same_rep, log_in, logs_with, put_answer_in, same_rep-is}
use Rattle.repl_peer.specs.{PeerValue, Scope, SessionValue, entry_of, session_in, LawfulSessions, IsLaterPeer, rep_between, BackupValue, source_log, as_log_answers, put_by, put_entry_answer, after_put_entry, new_session, with_window, session_answer, found_answer, TargetFault, Beginning}
use Rattle.repl_target.specs.{IsTiedWindow, IsReached, IsTiedSession, IsTiedEntry, AreTiedEntries, IsTiedPair, AreTiedBackups, IsSentEntry, Call, Begin, after_call, IsPageOf, IsGrown, beginning_between, start_between, after_begins, Plan}
use Rattle.repl_peer.specs.declared.fault.TargetFault.TheVariants as faults
use Rattle.repl_peer.proofs.{covers-later, session_found, begin_later, changed, after_change, KeptByChanges, change_law}
use Rattle.repl_target.proofs.lemmas.ties.TiedPages.{chosen_member, in_chosen, IsTiedWindow-later}
use Rattle.repl_target.proofs.lemmas.replication.FetchedDocuments.{of_run, run_keeps}
use Rattle.repl_target.proofs.lemmas.replication.CallLaws.{Stays, Brings, call_keeps, each-with, each-changed, each-kept, run_windows, IsRunOf, run-stays}
use Rattle.repl_target.proofs.lemmas.ties.TiedPeersCover.{session_reached, start_reached}

-- ---- a later target

pub reached-later : (c : Choice) (db : DatabaseValue) (p q : PeerValue) (n : ℕ) → IsLaterPeer p q → IsReached c db p n → IsReached c db q n
reached-later c db p q n later h = record { within = h.within; covered = λ row m leaf k. covers-later p q later row.id leaf (h.covered row m leaf k) }

pub session-later : (c : Choice) (db : DatabaseValue) (p q : PeerValue) (s : SessionValue) → IsLaterPeer p q → IsTiedSession c db p s → IsTiedSession c db q s
session-later c db p q s later h = record { life = h.life; windows = h.windows; start = λ e. reached-later c db p q s.front.start later (h.start e) }

pub entry-later : (db : DatabaseValue) (p q : PeerValue) (rep : RepId) (e : EntryValue) → IsLaterPeer p q → IsTiedEntry db p rep e → IsTiedEntry db q rep e
entry-later db p q rep e later h =
    let k = later.sessions h.session h.held in
    record {
      session = k.0;
      held = k.1;
      named = k.2.id ∙ h.named;
      recorded = λ r. (let less = h.recorded (sym (ap (λ (c : Scope). c.rep) k.2.scope) ∙ r) in omega (arith, less, k.2.recorded));
      reached = λ r. reached-later rep.chosen db p q e.recorded later (h.reached (sym (ap (λ (c : Scope). c.rep) k.2.scope) ∙ r));
    }

pub sent-later : (p q : PeerValue) (e : EntryValue) → IsLaterPeer p q → IsSentEntry p e → IsSentEntry q e
sent-later p q e later h =
    let k = later.sessions h.session h.held in
    record { session = k.0; held = k.1; named = k.2.id ∙ h.named; life = ap (λ (c : Scope). c.life) k.2.scope ∙ h.life; recorded = omega (arith, h.recorded, k.2.recorded) }

rep_later : (source p q : PeerValue) (c : Choice) → IsLaterPeer p q → rep_between source p c ≡ rep_between source q c
rep_later source p q c later = λ i. record { source = source.db.uuid; target = sym later.db.uuid i; chosen = c }

pub backups-later : (backups : List BackupValue) (source p q : PeerValue) (c : Choice) → IsLaterPeer p q → AreTiedBackups backups p (rep_between source p c) → AreTiedBackups backups q (rep_between source q c)
backups-later backups source p q c later h =
    subst (AreTiedBackups backups q) (rep_later source p q c later) (λ b m e n. entry-later b.db p q (rep_between source p c) e later (h b m e n))

-- ---- a call at the target

-- the condition on a session of the replication
abbrev pub TiedAt : DatabaseValue → PeerValue → RepId → SessionValue → Type 0
TiedAt db p rep s = s.rep ≡ rep → IsTiedSession rep.chosen db p s

pub tied-stays : (db : DatabaseValue) (p : PeerValue) (rep : RepId) (s t : SessionValue) → Stays s t → TiedAt db p rep s → TiedAt db p rep t
tied-stays db p rep s t k h = λ r.
    let was = h (sym k.rep ∙ r) in
    record {
      life = subst (λ n. n ≤ db.life) (sym k.life) was.life;
      windows = λ e w m. was.windows (sym k.life ∙ e) w (subst (Among w) k.windows m);
      start = λ e. subst (IsReached rep.chosen db p) (sym k.start) (was.start (sym k.life ∙ e));
    }

-- one more window
pub tied-more : (db : DatabaseValue) (p : PeerValue) (rep : RepId) (w : WindowValue) (s : SessionValue) → (s.rep ≡ rep → s.life ≡ db.life → IsTiedWindow db rep.chosen w) → TiedAt db p rep s → TiedAt db p rep (with_window w s (Ok tt))
tied-more db p rep w s tied h = λ r.
    let was = h r in
    record {
      life = was.life;
      windows = λ e v m. elim (Among-push v s.windows w m) [ inl old ↦ was.windows e v old | inr new ↦ subst (IsTiedWindow db rep.chosen) (sym new) (tied r e) ];
      start = was.start;
    }

-- a new session
pub tied-new : (db : DatabaseValue) (p : PeerValue) (rep : RepId) (id : SessionId) (b : Beginning) (at : ℕ) → b.scope.life ≤ db.life → (b.scope.rep ≡ rep → b.scope.life ≡ db.life → IsReached rep.chosen db p b.start) → TiedAt db p rep (new_session id b at)
tied-new db p rep id b at under reach = λ r. record { life = under; windows = λ e w m. absurd m; start = reach r }

-- two peers stay tied if the target becomes a later one whose sessions satisfy the condition
pair_later : (source p q : PeerValue) (chosen : Choice) → IsLaterPeer p q → ((s : SessionValue) → Among s q.sessions → TiedAt source.db p (rep_between source p chosen) s) → IsTiedPair source p chosen → IsTiedPair source q chosen
pair_later source p q chosen later each h =
    let rep = rep_between source p chosen in
    let same = rep_later source p q chosen later in
    record {
      sessions = λ s m r. session-later chosen source.db p q s later (each s m (r ∙ sym same));
      log = subst (λ (x : RepId). AreTiedEntries source.db q x (source_log source x)) same (λ e m. entry-later source.db p q rep e later (h.log e m));
    }

pub tied_call : (refuses : Document → Bool) (source target : PeerValue) (chosen : Choice) (c : Call) → Brings (TiedAt source.db target (rep_between source target chosen)) (tied-stays source.db target (rep_between source target chosen)) target c → IsLaterPeer target (after_call refuses target c)
    → IsTiedPair source target chosen → IsTiedPair source (after_call refuses target c) chosen
tied_call refuses source target chosen c brings later h =
    let rep = rep_between source target chosen in
    pair_later source target (after_call refuses target c) chosen later (call_keeps (TiedAt source.db target rep) (tied-stays source.db target rep) refuses target c brings h.sessions) h

-- a target that grows by messages of a source for a run, and any peer to which it is tied, for every selection: the
-- stored windows are for the run's session, and are tied, or are not of this pair's replication
module _ (refuses : Document → Bool) (source : DatabaseValue) (chosen : Choice) (run : SessionId) (peer : PeerValue) (other : Choice) (law : LawfulDatabase source)
    (fits : (w : WindowValue) → IsPageOf source chosen w → source.uuid ≡ peer.db.uuid → chosen ≡ other → IsTiedWindow peer.db other w) where
  record Grows (p : PeerValue) : Type 0 where
    lawful : LawfulSessions refuses p
    runs : (s : SessionValue) → Among s p.sessions → IsRunOf run source.uuid chosen s
    tied : IsTiedPair peer p other

  grows : KeptByChanges refuses (of_run source chosen run) (λ p _. Grows p)
  grows p s c m may h =
      let Of = of_run source chosen run in
      let rep = rep_between peer p other in
      let k = change_law refuses Of (run_windows source chosen run law) p s c m may h.lawful in
      let more = λ (w : WindowValue) (from : (s.id ≡ run) × IsPageOf source chosen w) (life : w.life ≡ s.life) (t : TiedAt peer.db p rep s). tied-more peer.db p rep w s (λ r _.
      let own = h.runs s m from.0 in
      fits w from.1 (sym own.0 ∙ ap (λ (x : RepId). x.source) r) (sym own.1 ∙ ap (λ (x : RepId). x.chosen) r)) t in
      let own = each-changed (TiedAt peer.db p rep) (tied-stays peer.db p rep) refuses Of p s c may more (h.tied.sessions s m) in
      record {
        lawful = k.0;
        runs = each-kept (IsRunOf run source.uuid chosen) (run-stays run source.uuid chosen) refuses Of (λ _ _ _ _ r. r) p s c m may h.runs;
        tied = pair_later peer p (after_change p s c) other k.1 (each-with (TiedAt peer.db p rep) (tied-stays peer.db p rep) p.sessions (changed s c) own h.tied.sessions) h.tied;
      }

  -- the two peers stay tied during the run
  pub tied_grown : (given now : PeerValue) → LawfulSessions refuses given → ((s : SessionValue) → Among s given.sessions → IsRunOf run source.uuid chosen s) → IsGrown refuses source chosen run given now → IsTiedPair peer given other → IsTiedPair peer now other
  tied_grown given now l runs grown h = (run_keeps refuses source chosen run Grows grows given now grown (record { lawful = l; runs = runs; tied = h })).tied

-- the two peers stay tied when a replication begins its session
pub tied_begun : (refuses : Document → Bool) (source target : PeerValue) (plan : Plan) (other : Choice) → LawfulSessions refuses target → IsTiedPair source target other → IsTiedPair source (after_begins source target plan) other
tied_begun refuses source target plan other l h =
    let rep = rep_between source target other in
    let b = beginning_between source target plan.chosen in
    tied_call refuses source target other (Begin plan.session b plan.at)
    (λ _. tied-new source.db target rep plan.session b plan.at (omega arith) (λ r _.
    let same : other ≡ plan.chosen = sym (ap (λ (x : RepId). x.chosen) r) in
    subst (λ (x : Choice). IsReached other source.db target (start_between source target x)) same (start_reached refuses source target other l h)))
    (begin_later target plan.session b plan.at)
    h

-- ---- a database in another life

-- the database in another life has the same documents
pub entry-life : (db : DatabaseValue) (life : ℕ) (p : PeerValue) (rep : RepId) (e : EntryValue) → IsTiedEntry db p rep e → IsTiedEntry (in_life db life) p rep e
entry-life db life p rep e h =
    record {
      session = h.session;
      held = h.held;
      named = h.named;
      recorded = h.recorded;
      reached = λ r. (let k = h.reached r in record { within = k.within; covered = k.covered });
    }

-- ---- a later source

pub reached-source : (c : Choice) (a b : DatabaseValue) (p : PeerValue) (n : ℕ) → IsLater a b → IsReached c a p n → IsReached c b p n
reached-source c a b p n later h =
    record {
      within = omega (arith, h.within, later.seq);
      covered = λ row m leaf k.
          (let d = chosen_member c b 0 n row m in
          let there = later.kept d.0 d.1 (omega (arith, d.4, h.within)) in
          h.covered row (subst (λ (x : RowValue). Among x (chosen_feed c a 0 n)) (sym d.2) (in_chosen c a 0 n d.0 there d.5 d.3 d.4)) leaf k);
    }

pub entry-source : (a b : DatabaseValue) (p : PeerValue) (rep : RepId) (e : EntryValue) → IsLater a b → IsTiedEntry a p rep e → IsTiedEntry b p rep e
entry-source a b p rep e later h =
    record { session = h.session; held = h.held; named = h.named; recorded = h.recorded; reached = λ r. reached-source rep.chosen a b p e.recorded later (h.reached r) }

pub session-source : (c : Choice) (a b : DatabaseValue) (p : PeerValue) (s : SessionValue) → IsLater a b → IsTiedSession c a p s → IsTiedSession c b p s
session-source c a b p s later h =
    record {
      life = subst (λ n. s.life ≤ n) (sym later.life) h.life;
      windows = λ e w m. IsTiedWindow-later a b c w later (h.windows (e ∙ later.life) w m);
      start = λ e. reached-source c a b p s.front.start later (h.start (e ∙ later.life));
    }

-- the source's database grows, and its logs stay
pub tied_source : (source new target : PeerValue) (c : Choice) → IsLater source.db new.db → new.outgoing ≡ source.outgoing → IsTiedPair source target c → IsTiedPair new target c
tied_source source new target c later logs h =
    let rep = rep_between source target c in
    let same : rep ≡ rep_between new target c = λ i. record { source = sym later.uuid i; target = target.db.uuid; chosen = c } in
    record {
      sessions = λ s m r. session-source c source.db new.db target s later (h.sessions s m (r ∙ sym same));
      log =
          subst (λ (x : RepId). AreTiedEntries new.db target x (log_in new.outgoing x)) same
          (subst (λ (l : List (RepId × List EntryValue)). AreTiedEntries new.db target rep (log_in l rep)) (sym logs) (λ e m. entry-source source.db new.db target rep e later (h.log e m)));
    }

pub backups-source : (backups : List BackupValue) (source new target : PeerValue) (c : Choice) → new.db.uuid ≡ source.db.uuid → AreTiedBackups backups target (rep_between source target c) → AreTiedBackups backups target (rep_between new target c)
backups-source backups source new target c uuid h =
    subst (AreTiedBackups backups target) (λ i. record { source = sym uuid i; target = target.db.uuid; chosen = c }) h

-- ---- an entry is stored at the source

-- the log of the replication has one more entry, or a replaced one
entry_with : (log : List EntryValue) (e x : EntryValue) → Among x (with_entry log e) → (x ≡ e) ⊎ Among x log
entry_with log e x m =
    cond_both (holds log e.session) (replaced log e) (e ∷ log) (λ (l : List EntryValue). Among x l → (x ≡ e) ⊎ Among x log)
    (λ _ k.
    let f = Among-map (λ (y : EntryValue). cond (is_of e.session y) e y) x log k in
    cond_both (is_of e.session f.0) e f.0 (λ (z : EntryValue). x ≡ z → (x ≡ e) ⊎ Among x log) (λ _ i. inl i) (λ _ i. inr (subst (λ (z : EntryValue). Among z log) (sym i) f.1)) f.2)
    (λ _ k. elim k [ inl i ↦ inl i | inr n ↦ inr n ])
    m

-- an entry in a log after a put was there before, or is the new one, in the log of its replication
pub log_with : (logs : List (RepId × List EntryValue)) (rep : RepId) (e : EntryValue) (own : RepId) (x : EntryValue) → Among x (log_in (logs_with logs rep e) own) → (own ≡ rep) × (x ≡ e) ⊎ Among x (log_in logs own)
log_with [] rep e own x m =
    cond_both (same_rep own rep) (e ∷ []) [] (λ (l : List EntryValue). Among x l → (own ≡ rep) × (x ≡ e) ⊎ ⊥)
    (λ t k. elim k [ inl i ↦ inl (same_rep-is own rep t, i) | inr n ↦ absurd n ])
    (λ _ k. absurd k)
    m
log_with (l ∷ logs) rep e own x m = go (log_with logs rep e own x) (same_rep rep l.0) refl (same_rep own l.0) refl m
  where
    go : (Among x (log_in (logs_with logs rep e) own) → (own ≡ rep) × (x ≡ e) ⊎ Among x (log_in logs own)) → (b : Bool) → same_rep rep l.0 ≡ b → (d : Bool) → same_rep own l.0 ≡ d → Among x (log_in (cond b ((l.0, with_entry l.1 e) ∷ logs) (l ∷ logs_with logs rep e)) own)
        → (own ≡ rep) × (x ≡ e) ⊎ Among x (log_in (l ∷ logs) own)
    go later true t true u k =
        elim (entry_with l.1 e x (subst (λ (c : Bool). Among x (cond c (with_entry l.1 e) (log_in logs own))) u k)) [
          | inl i ↦ inl (same_rep-is own l.0 u ∙ sym (same_rep-is rep l.0 t), i)
          | inr old ↦ inr (subst (λ (c : Bool). Among x (cond c l.1 (log_in logs own))) (sym u) old)
        ]
    go later true t false u k =
        inr (subst (λ (c : Bool). Among x (cond c l.1 (log_in logs own))) (sym u) (subst (λ (c : Bool). Among x (cond c (with_entry l.1 e) (log_in logs own))) u k))
    go later false t true u k =
        inr (subst (λ (c : Bool). Among x (cond c l.1 (log_in logs own))) (sym u) (subst (λ (c : Bool). Among x (cond c l.1 (log_in (logs_with logs rep e) own))) u k))
    go later false t false u k =
        elim (later (subst (λ (c : Bool). Among x (cond c l.1 (log_in (logs_with logs rep e) own))) u k)) [
          | inl i ↦ inl i
          | inr old ↦ inr (subst (λ (c : Bool). Among x (cond c l.1 (log_in logs own))) (sym u) old)
        ]

-- an entry in transit is tied when it is stored
sent_tied : (refuses : Document → Bool) (source target : PeerValue) (c : Choice) (e : EntryValue) → LawfulSessions refuses target → IsTiedPair source target c → IsSentEntry target e → e.life ≡ source.db.life → IsTiedEntry source.db target (rep_between source target c) e
sent_tied refuses source target c e law h sent same =
    record {
      session = sent.session;
      held = sent.held;
      named = sent.named;
      recorded = λ _. sent.recorded;
      reached = λ r. session_reached refuses c source.db target law sent.session sent.held (h.sessions sent.session sent.held r) (sent.life ∙ same) e.recorded sent.recorded;
    }

-- two peers stay tied if an entry is stored in the log of any replication, for every selection
pub puts_tied : (refuses : Document → Bool) (source target : PeerValue) (rep : RepId) (c : Choice) (e : EntryValue) → LawfulSessions refuses target → IsTiedPair source target c → IsSentEntry target e → IsTiedPair (after_put_entry source rep e) target c
puts_tied refuses source target rep c e law h sent = go (put_entry_answer source rep e) refl
  where
    own : RepId
    own = rep_between source target c

    of_life : (r : Result (Unit {0}) TargetFault) (done : Unit {0}) → cond (e.life == source.db.life) r (Err (faults.OtherLife source.db.life)) ≡ Ok done → e.life ≡ source.db.life
    of_life r done k =
        cond_both (e.life == source.db.life) r (Err (faults.OtherLife source.db.life)) (λ (x : Result (Unit {0}) TargetFault). x ≡ Ok done → e.life ≡ source.db.life)
        (λ t _. eqb-true _ _ t) (λ _ b. cc) k

    go : (r : Result (Unit {0}) TargetFault) → put_entry_answer source rep e ≡ r → IsTiedPair (put_by source rep e r) target c
    go (Err fault) k = h
    go (Ok done) k =
        let tied = sent_tied refuses source target c e law h sent (of_life (as_log_answers (put_answer_in source.outgoing rep e)) done k) in
        record {
          sessions = h.sessions;
          log = λ x m. elim (log_with source.outgoing rep e own x m) [ inl i ↦ subst (IsTiedEntry source.db target own) (sym i.1) tied | inr old ↦ h.log x old ];
        }

-- the current log entry of a session may be sent
pub sent_entry : (p : PeerValue) (id : SessionId) (e : EntryValue) → session_answer p id (λ s. Ok (entry_of s)) ≡ Ok e → IsSentEntry p e
sent_entry p id e told = go (session_in p.sessions id) refl told
  where
    go : (o : Option SessionValue) → session_in p.sessions id ≡ o → found_answer (λ s. Ok (entry_of s)) o ≡ Ok e → IsSentEntry p e
    go None i k = cc
    go (Some s) i k =
        let is : e ≡ entry_of s = cc in
        record {
          session = s;
          held = (session_found p.sessions id s i).0;
          named = ap (λ (y : EntryValue). y.session) (sym is);
          life = ap (λ (y : EntryValue). y.life) (sym is);
          recorded = let less : e.recorded ≡ s.recorded = ap (λ (y : EntryValue). y.recorded) is in omega (arith, less);
        }
