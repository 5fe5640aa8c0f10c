-- A replication by one thread is a list of calls on the target whose messages come from the source.
use Rattle.proof_prelude.proofs.{◌≡◌, ℕ, min, zero, suc, ◌⊎◌, ◌==◌, ◌≤◌, Bool, true, cond, List, [], ◌∷◌, ◌++◌, Option, Some, None, Result, Ok, Err, is_ok, IfOk, OnOk, take, length, refl, sym, ap, ◌∙◌, subst, inl, inr, arith, cond_both, false≢true, and_parts, cond-true, cond-false, both_ways, min-eq_left, AllocError, eq-eqb, ne_eqb, leb-true, ltb-true}
use Rattle.rev_tree.specs.{SessionId}
use Rattle.doc_json.specs.Document.{Document}
use Rattle.doc_json.specs.{Choice}
use Rattle.couch_base.specs.{Among, DatabaseValue, LawfulDatabase, WindowValue, ParcelValue, open_revs, some_is, none_some, any_from}
use Rattle.repl_peer.specs.declared.fault.Cause.TheVariants as causes
use Rattle.repl_peer.specs.{Report, Scope, Settled, TargetFault, PeerValue, SessionValue, is_of, entry_of, LawfulSessions, new_session, begun, after_append, conclude_answer, session_answer, settle_check, settling_of, settled_before, after_all, after_documents, after_front, after_stop, settled_at, after_settle, SettlesAt, Settles, SettleGives, stopped_at, rep_between, BackupValue, IsLaterPeer}
use Rattle.repl_peer.specs.declared.fault.TargetFault.TheVariants as faults
use Rattle.repl_target.specs.{Plan, audit_answer, CoversFeed, Reading, is_batch, beginning_between, begins_answer, after_begins, next_window, parcel_for, Carries, WindowRefused, Reads, ReadsAll, ReadsUntil, is_due, first_reading, closed, closed_as, PutsOver, plan_answer, Replicates, cut, ended, IsReported, Call, Append, Settle, Stop, Record, Conclude, after_call, after_calls, after_some, most_settled, settled_of, IsPageOf, IsFrom, AllFrom, IsGrown, IsLeft, IsTiedWindow, IsTiedPair, IsTiedWith, IsPut}
use Rattle.repl_target.proofs.lemmas.replication.BegunSessions.{fresh_of}
use Rattle.repl_log.specs.{EntryValue}
use Rattle.repl_peer.proofs.{IsLaterPeer-same, IsLaterPeer-later, session_found, begin_law, begin_later}
use Rattle.repl_target.proofs.lemmas.replication.CallLaws.{page_window, grown_law, IsRunOf}
use Rattle.repl_target.proofs.lemmas.ties.TiedPeersCover.{session_reached, start_small, tied_none}
use Rattle.repl_target.proofs.lemmas.ties.TiedPeersStay.{backups-later, backups-source, tied_grown, tied_begun, puts_tied, sent_entry}

-- ---- a settling is one of two calls

-- the effect of settling, by how it ended
abbrev pub settle_left : (Document → Bool) → PeerValue → SessionId → ParcelValue → Option ℕ → PeerValue
settle_left refuses p id parcel None = after_settle refuses p id parcel
settle_left refuses p id parcel (Some n) = after_stop refuses p id parcel n

pub settle_gives : (refuses : Document → Bool) (p : PeerValue) (id : SessionId) (parcel : ParcelValue) (result : Result Settled TargetFault) (q : PeerValue) → SettleGives refuses p id parcel result q → q ≡ settle_left refuses p id parcel (stopped_at result)
settle_gives refuses p id parcel result q gives = go (settle_check p id parcel) gives
  where
    left : Result (SessionValue × WindowValue) TargetFault → Option ℕ → PeerValue
    left r None = settled_at refuses p parcel r
    left r (Some n) = after_front refuses p parcel n r

    refused : (fault : TargetFault) (o : Option ℕ) → left (Err fault) o ≡ p
    refused fault None = refl
    refused fault (Some n) = refl

    all : (s : SessionValue) (w : WindowValue) → settled_before refuses w (settling_of p s) parcel.docs ≡ length parcel.docs → after_all refuses p s w parcel ≡ settled_at refuses p parcel (Ok (s, w))
    all s w e =
        let n = settled_before refuses w (settling_of p s) parcel.docs in
        sym (cond-true (n == length parcel.docs) (after_all refuses p s w parcel) (after_documents refuses p s w (take n parcel.docs)) (eq-eqb _ _ e))

    at_window : (s : SessionValue) (w : WindowValue) (result : Result Settled TargetFault) → SettlesAt refuses p parcel s w result q → q ≡ left (Ok (s, w)) (stopped_at result)
    at_window s w (Ok settled) h = h.0.peer ∙ all s w h.0.all
    at_window s w (Err (faults.Uncovered seq id rev)) h = h.0.peer ∙ all s w h.0.all
    at_window s w (Err (faults.Stopped n rest causes.Memory)) h = h.0.peer
    at_window s w (Err (faults.Stopped n rest causes.SeqFull)) h =
        let m = settled_before refuses w (settling_of p s) parcel.docs in
        h.0.peer ∙ ap (λ k. after_documents refuses p s w (take k parcel.docs)) h.1.0
        ∙ sym (cond-false (m == length parcel.docs) (after_all refuses p s w parcel) (after_documents refuses p s w (take m parcel.docs)) (ne_eqb m (length parcel.docs) (λ e. omega (arith, e, h.1.0, h.1.1))))
    at_window s w (Err fault) h = absurd h

    same : (o : Option ℕ) → left (settle_check p id parcel) o ≡ settle_left refuses p id parcel o
    same None = refl
    same (Some n) = refl

    go' : (r : Result (SessionValue × WindowValue) TargetFault) → Settles refuses p parcel r result q → q ≡ left r (stopped_at result)
    go' (Err fault) h = h.1 ∙ sym (refused fault (stopped_at result))
    go' (Ok at) h = at_window at.0 at.1 result h

    go : (r : Result (SessionValue × WindowValue) TargetFault) → Settles refuses p parcel (settle_check p id parcel) result q → q ≡ settle_left refuses p id parcel (stopped_at result)
    go r h = go' (settle_check p id parcel) h ∙ same (stopped_at result)

-- ---- growing

AllFrom-both : (source : DatabaseValue) (chosen : Choice) (run : SessionId) (xs ys : List Call) → AllFrom source chosen run xs → AllFrom source chosen run ys → AllFrom source chosen run (xs ++ ys)
AllFrom-both source chosen run [] ys h k = k
AllFrom-both source chosen run (x ∷ xs) ys h k = (h.0, AllFrom-both source chosen run xs ys h.1 k)

after-both : (refuses : Document → Bool) (p : PeerValue) (xs ys : List Call) → after_calls refuses p (xs ++ ys) ≡ after_calls refuses (after_calls refuses p xs) ys
after-both refuses p [] ys = refl
after-both refuses p (x ∷ xs) ys = after-both refuses (after_call refuses p x) xs ys

pub grown-same : (refuses : Document → Bool) (source : DatabaseValue) (chosen : Choice) (run : SessionId) (p : PeerValue) → IsGrown refuses source chosen run p p
grown-same refuses source chosen run p = ([], tt, refl)

pub grown-later : (refuses : Document → Bool) (source : DatabaseValue) (chosen : Choice) (run : SessionId) (p q r : PeerValue) → IsGrown refuses source chosen run p q → IsGrown refuses source chosen run q r → IsGrown refuses source chosen run p r
grown-later refuses source chosen run p q r h k =
    (h.0 ++ k.0, AllFrom-both source chosen run h.0 k.0 h.1 k.1, k.2 ∙ ap (λ x. after_calls refuses x k.0) h.2 ∙ sym (after-both refuses p h.0 k.0))

pub grown-one : (refuses : Document → Bool) (source : DatabaseValue) (chosen : Choice) (run : SessionId) (p q : PeerValue) (c : Call) → IsFrom source chosen run c → q ≡ after_call refuses p c → IsGrown refuses source chosen run p q
grown-one refuses source chosen run p q c from is = (c ∷ [], (from, tt), is)

-- settling that ran out of memory stopped within what could be settled, or changed nothing
pub settle_stops : (refuses : Document → Bool) (p : PeerValue) (id : SessionId) (parcel : ParcelValue) (result : Result Settled TargetFault) (q : PeerValue) → SettleGives refuses p id parcel result q → (n : ℕ) → stopped_at result ≡ Some n
    → (q ≡ p) ⊎ (n ≤ most_settled refuses p id parcel) × (q ≡ after_some refuses p id parcel n)
settle_stops refuses p id parcel result q gives n is = go (settle_check p id parcel) gives
  where
    -- the number of settled documents
    so_many : (s : SessionValue) (w : WindowValue) (m : ℕ) → m ≡ n → m ≤ settled_before refuses w (settling_of p s) parcel.docs → q ≡ after_documents refuses p s w (take m parcel.docs)
        → (n ≤ settled_before refuses w (settling_of p s) parcel.docs) × (q ≡ after_documents refuses p s w (take (min n (settled_before refuses w (settling_of p s) parcel.docs)) parcel.docs))
    so_many s w m same low peer =
        let most = settled_before refuses w (settling_of p s) parcel.docs in
        let within : n ≤ most = subst (λ k. k ≤ most) same low in
        (within, peer ∙ ap (λ k. after_documents refuses p s w (take k parcel.docs)) (same ∙ sym (min-eq_left within)))

    within : (s : SessionValue) (w : WindowValue) (r : Result Settled TargetFault) → SettlesAt refuses p parcel s w r q → stopped_at r ≡ Some n
        → (n ≤ settled_before refuses w (settling_of p s) parcel.docs) × (q ≡ after_documents refuses p s w (take (min n (settled_before refuses w (settling_of p s) parcel.docs)) parcel.docs))
    within s w (Ok settled) h e = absurd (none_some n e)
    within s w (Err (faults.Uncovered seq uncovered rev)) h e = absurd (none_some n e)
    within s w (Err (faults.Stopped m rest causes.Memory)) h e = so_many s w m (some_is m n e) h.0.within h.0.peer
    within s w (Err (faults.Stopped m rest causes.SeqFull)) h e = absurd (none_some n e)
    within s w (Err fault) h e = absurd h

    go : (r : Result (SessionValue × WindowValue) TargetFault) → Settles refuses p parcel r result q
        → (q ≡ p) ⊎ (n ≤ settled_of refuses p parcel r) × (q ≡ after_front refuses p parcel (min n (settled_of refuses p parcel r)) r)
    go (Err fault) h = inl h.1
    go (Ok at) h = inr (within at.0 at.1 result h is)

-- settling of messages of the source, for the run's session
pub settled_grown : (refuses : Document → Bool) (source : DatabaseValue) (chosen : Choice) (run : SessionId) (p q : PeerValue) (parcel : ParcelValue) (result : Result Settled TargetFault) → parcel ≡ open_revs source parcel.asked → SettleGives refuses p run parcel result q
    → IsGrown refuses source chosen run p q
settled_grown refuses source chosen run p q parcel result from gives = go (stopped_at result) refl
  where
    go : (o : Option ℕ) → stopped_at result ≡ o → IsGrown refuses source chosen run p q
    go None is = grown-one refuses source chosen run p q (Settle run parcel) (refl, from) (subst (λ o. q ≡ settle_left refuses p run parcel o) is (settle_gives refuses p run parcel result q gives))
    go (Some n) is =
        elim (settle_stops refuses p run parcel result q gives n is) [
          | inl same ↦ subst (IsGrown refuses source chosen run p) (sym same) (grown-same refuses source chosen run p)
          | inr stops ↦ grown-one refuses source chosen run p q (Stop run parcel n) (refl, from) stops.1
        ]

-- ---- windows

module _ (refuses : Document → Bool) (source : DatabaseValue) (plan : Plan) (batch : is_batch plan.batch ≡ true) where
  due_page : (since n : ℕ) → is_due source plan n since ≡ true → IsPageOf source plan.chosen (next_window source plan since)
  due_page since n due = record {
    since = since;
    goal = source.update_seq;
    limit = plan.batch;
    some = leb-true 1 plan.batch (and_parts _ _ batch).0;
    above = ltb-true since source.update_seq (and_parts _ _ due).0;
    within = omega arith;
    is = refl;
  }

  appended_grown : (p : PeerValue) (since n : ℕ) → is_due source plan n since ≡ true → IsGrown refuses source plan.chosen plan.session p (after_append p plan.session (next_window source plan since))
  appended_grown p since n due = grown-one refuses source plan.chosen plan.session p _ (Append plan.session (next_window source plan since)) (refl, due_page since n due) refl

  carries_grown : (before after : Reading) (n : ℕ) → is_due source plan n before.since ≡ true → Carries refuses source plan before after → IsGrown refuses source plan.chosen plan.session before.target after.target
  carries_grown before after n due c =
      let w = next_window source plan before.since in
      let p = before.target in
      let settles = subst (λ v. SettleGives refuses (after_append p plan.session v) plan.session (parcel_for source p v) (Ok c.settled) after.target) c.read c.settles.1 in
      grown-later refuses source plan.chosen plan.session p (after_append p plan.session w) after.target (appended_grown p before.since n due)
      (settled_grown refuses source plan.chosen plan.session (after_append p plan.session w) after.target (parcel_for source p w) (Ok c.settled) refl settles)

  reads_grown : (n : ℕ) (from to : Reading) → Reads refuses source plan n from to → IsGrown refuses source plan.chosen plan.session from.target to.target
  reads_grown zero from to is = subst (λ (x : Reading). IsGrown refuses source plan.chosen plan.session from.target x.target) (sym is) (grown-same refuses source plan.chosen plan.session from.target)
  reads_grown (suc n) from to r =
      grown-later refuses source plan.chosen plan.session from.target r.0.target to.target (reads_grown n from r.0 r.1) (carries_grown r.0 to n r.2 r.3)

  refused_grown : (now : Reading) (n : ℕ) (why : TargetFault) (q : PeerValue) → is_due source plan n now.since ≡ true → WindowRefused refuses source plan now why q → IsGrown refuses source plan.chosen plan.session now.target q
  refused_grown now n why q due h =
      let w = next_window source plan now.since in
      let p = now.target in
      elim h [
        | inl none ↦ subst (IsGrown refuses source plan.chosen plan.session p) (sym none.1) (grown-same refuses source plan.chosen plan.session p)
        | inr other ↦ elim other [
          | inl unstored ↦ subst (IsGrown refuses source plan.chosen plan.session p) (sym unstored.1) (grown-same refuses source plan.chosen plan.session p)
          | inr settles ↦ grown-later refuses source plan.chosen plan.session p (after_append p plan.session w) q (appended_grown p now.since n due)
              (settled_grown refuses source plan.chosen plan.session (after_append p plan.session w) q (parcel_for source p w) (Err why) refl settles.1)
        ]
      ]

  until_grown : (from : Reading) (why : TargetFault) (q : PeerValue) → ReadsUntil refuses source plan from why q → IsGrown refuses source plan.chosen plan.session from.target q
  until_grown from why q h =
      grown-later refuses source plan.chosen plan.session from.target h.1.target q (reads_grown h.0 from h.1 h.2) (refused_grown h.1 h.0 why q h.3 h.4)

  all_grown : (from : Reading) (q : PeerValue) → ReadsAll refuses source plan from q → IsGrown refuses source plan.chosen plan.session from.target q
  all_grown from q h = subst (IsGrown refuses source plan.chosen plan.session from.target) (sym h.4) (reads_grown h.0 from h.1 h.2)

  closed_grown : (p q : PeerValue) → q ≡ closed p plan → IsGrown refuses source plan.chosen plan.session p q
  closed_grown p q is = subst (IsGrown refuses source plan.chosen plan.session p) (sym is) (go (conclude_answer p plan.session))
    where
      go : (r : Result Report TargetFault) → IsGrown refuses source plan.chosen plan.session p (closed_as p plan r)
      go (Ok report) = grown-one refuses source plan.chosen plan.session p _ (Conclude plan.session plan.at) refl refl
      go (Err fault) = (Conclude plan.session plan.at ∷ Record plan.session plan.at ∷ [], (refl, (refl, tt)), refl)

-- ---- a replication

pub planned_batch : (source target : PeerValue) (plan : Plan) → plan_answer source.db.uuid target.db.uuid plan ≡ Ok tt → is_batch plan.batch ≡ true
planned_batch source target plan h =
    cond_both (is_batch plan.batch) (cond (source.db.uuid == target.db.uuid) (Err faults.SamePeer) (Ok tt)) (Err faults.BadBatch) (λ (r : Result (Unit {0}) TargetFault). r ≡ Ok tt → is_batch plan.batch ≡ true)
    (λ e _. e) (λ _ k. absurd (false≢true (ap is_ok k))) h

module _ (refuses : Document → Bool) (source target : PeerValue) (plan : Plan) (read : PeerValue) (planned : plan_answer source.db.uuid target.db.uuid plan ≡ Ok tt) (reads : ReadsAll refuses source.db plan (first_reading source target plan) read) where
  pub read_grown : IsGrown refuses source.db plan.chosen plan.session (after_begins source target plan) read
  read_grown = all_grown refuses source.db plan (planned_batch source target plan planned) (first_reading source target plan) read reads

  pub ended_grown : (target' : PeerValue) → target' ≡ closed read plan → IsGrown refuses source.db plan.chosen plan.session (after_begins source target plan) target'
  ended_grown target' is =
      grown-later refuses source.db plan.chosen plan.session (after_begins source target plan) read target' read_grown (closed_grown refuses source.db plan (planned_batch source target plan planned) read target' is)

-- the effect of a replication by one thread on its target
pub replicates_left : (refuses : Document → Bool) (source target : PeerValue) (plan : Plan) (result : Result Report TargetFault) (source' target' : PeerValue) → Replicates refuses source target plan result source' target' → IsLeft refuses source target plan target'
replicates_left refuses source target plan result source' target' (cut planned begun reads) =
    inr (begun, until_grown refuses source.db plan (planned_batch source target plan planned) (first_reading source target plan) _ target' reads)
replicates_left refuses source target plan result source' target' (ended read planned begun reads closes) =
    inr (begun, ended_grown refuses source target plan read planned reads target' closes.at_target)
replicates_left refuses source target plan result source' target' other = inl refl

-- the invariant and coverage, from a target to its state after the replication
pub begun_law : (refuses : Document → Bool) (source target : PeerValue) (plan : Plan) → LawfulSessions refuses target → LawfulSessions refuses (after_begins source target plan) × IsLaterPeer target (after_begins source target plan)
begun_law refuses source target plan l =
    let b = beginning_between source target plan.chosen in (
      begin_law refuses target plan.session b plan.at (start_small refuses source target plan.chosen l) l,
      begin_later target plan.session b plan.at,
    )

pub left_law : (refuses : Document → Bool) (source target : PeerValue) (plan : Plan) (now : PeerValue) → LawfulDatabase source.db → LawfulSessions refuses target → IsLeft refuses source target plan now → LawfulSessions refuses now × IsLaterPeer target now
left_law refuses source target plan now law l (inl same) = subst (λ (p : PeerValue). LawfulSessions refuses p × IsLaterPeer target p) (sym same) (l, IsLaterPeer-same target)
left_law refuses source target plan now law l (inr grown) =
    let p = after_begins source target plan in
    let b = begun_law refuses source target plan l in
    let k = grown_law refuses source.db plan.chosen plan.session p now law grown.1 b.0 in
    (k.0, IsLaterPeer-later target p now b.1 k.1)

-- only the session that has begun has its id
pub begun_runs : (source target : PeerValue) (plan : Plan) → begins_answer source target plan ≡ Ok tt → (s : SessionValue) → Among s (after_begins source target plan).sessions → IsRunOf plan.session source.db.uuid plan.chosen s
begun_runs source target plan ok s m own =
    let b = beginning_between source target plan.chosen in
    let new = new_session plan.session b plan.at in
    let is : after_begins source target plan ≡ record target { sessions = new ∷ target.sessions } = ap (begun target new) ok in
    elim (subst (λ (q : PeerValue). Among s q.sessions) is m) [
      | inl e ↦ (ap (λ (x : SessionValue). x.rep.source) e, ap (λ (x : SessionValue). x.rep.chosen) e)
      | inr o ↦ absurd (both_ways _ (fresh_of source target plan ok) (any_from (is_of plan.session) s target.sessions o (eq-eqb s.id.0 plan.session.0 (ap (λ (i : SessionId). i.0) own))))
    ]

-- two peers stay tied, for every selection
pub left_tied : (refuses : Document → Bool) (source target : PeerValue) (plan : Plan) (now : PeerValue) (other : Choice) → LawfulDatabase source.db → LawfulSessions refuses target → IsLeft refuses source target plan now → IsTiedPair source target other → IsTiedPair source now other
left_tied refuses source target plan now other law l (inl same) h = subst (λ (p : PeerValue). IsTiedPair source p other) (sym same) h
left_tied refuses source target plan now other law l (inr grown) h =
    tied_grown refuses source.db plan.chosen plan.session source other law (λ w page _ same. subst (λ (x : Choice). IsTiedWindow source.db x w) same (page_window source.db plan.chosen w law page).2) (after_begins source target plan) now (begun_law refuses source target plan l).0
    (begun_runs source target plan grown.0) grown.1
    (tied_begun refuses source target plan other l h)

-- ---- both sides

pub puts_over : (source target : PeerValue) (plan : Plan) (entry : EntryValue) (put : Result (Unit {0}) AllocError) (source' : PeerValue) → session_answer target plan.session (λ s. Ok (entry_of s)) ≡ Ok entry → PutsOver source (rep_between source target plan.chosen) entry put source'
    → IsPut source target plan.chosen source'
puts_over source target plan entry (Ok done) source' told h = inr (entry, sent_entry target plan.session entry told, h)
puts_over source target plan entry (Err refused) source' told h = inl h

pub replicates_puts : (refuses : Document → Bool) (source target : PeerValue) (plan : Plan) (result : Result Report TargetFault) (source' target' : PeerValue) → Replicates refuses source target plan result source' target' → IsPut source target' plan.chosen source'
replicates_puts refuses source target plan result source' target' (ended read planned begun reads closes) = puts_over source target' plan closes.entry closes.put source' closes.told closes.at_source
replicates_puts refuses source target plan result source' target' other = inl refl

-- both peers stay tied, with each backup of the source, for every selection
pub both_tied : (refuses : Document → Bool) (source target : PeerValue) (plan : Plan) (source' now : PeerValue) → LawfulDatabase source.db → LawfulSessions refuses target → IsLeft refuses source target plan now → IsPut source now plan.chosen source' → source'.db ≡ source.db
    → (other : Choice) (backups : List BackupValue) → IsTiedWith backups source target other → IsTiedWith backups source' now other
both_tied refuses source target plan source' now law l left puts same other backups h =
    let k = left_law refuses source target plan now law l left in
    let pair = left_tied refuses source target plan now other law l left h.pair in
    record {
      pair = elim puts [
        | inl is ↦ subst (λ (p : PeerValue). IsTiedPair p now other) (sym is) pair
        | inr put ↦ subst (λ (p : PeerValue). IsTiedPair p now other) (sym put.2) (puts_tied refuses source now (rep_between source now plan.chosen) other put.0 k.0 pair put.1)
      ];
      copies = backups-source backups source source' now other (ap (λ (d : DatabaseValue). d.uuid) same) (backups-later backups source target now other k.1 h.copies);
    }

-- a replication keeps tied peers tied, for every selection and whatever its result
pub replicates_tied : (refuses : Document → Bool) (source target : PeerValue) (plan : Plan) (result : Result Report TargetFault) (source' target' : PeerValue) → LawfulDatabase source.db → LawfulSessions refuses target
    → Replicates refuses source target plan result source' target' → source'.db ≡ source.db → (other : Choice) (backups : List BackupValue) → IsTiedWith backups source target other → IsTiedWith backups source' target' other
replicates_tied refuses source target plan result source' target' law l h same =
    both_tied refuses source target plan source' target' law l (replicates_left refuses source target plan result source' target' h) (replicates_puts refuses source target plan result source' target' h) same

-- ---- at the end

-- if the session is reported, the source's complete feed is covered, including the part below the start
pub reported_whole : (refuses : Document → Bool) (source target : PeerValue) (plan : Plan) (target' : PeerValue) (report : Report) → LawfulDatabase source.db → LawfulSessions refuses target → LawfulSessions refuses target'
    → begins_answer source target plan ≡ Ok tt → IsGrown refuses source.db plan.chosen plan.session (after_begins source target plan) target' → IsTiedPair source target plan.chosen → IsReported source target target' plan report → CoversFeed source target' plan.chosen source.db.update_seq
reported_whole refuses source target plan target' report law l l' begun grown tied reported =
    let s = reported.session in
    let left : IsLeft refuses source target plan target' = inr (begun, grown) in
    let held : Among s target'.sessions = (session_found target'.sessions plan.session s reported.held).0 in
    let after = (left_law refuses source target plan target' law l left).1 in
    let rep : s.rep ≡ rep_between source target' plan.chosen = ap (λ (c : Scope). c.rep) reported.scope ∙ (λ i. record { source = source.db.uuid; target = sym after.db.uuid i; chosen = plan.chosen }) in
    let recorded : s.recorded ≡ source.db.update_seq = sym (ap (λ (r : Report). r.recorded) reported.is) ∙ reported.recorded in
    let pair = left_tied refuses source target plan target' plan.chosen law l left tied in
    (session_reached refuses plan.chosen source.db target' l' s held (pair.sessions s held rep) (ap (λ (c : Scope). c.life) reported.scope) source.db.update_seq (omega (arith, recorded))).covered

pub replicates_whole : (refuses : Document → Bool) (source target : PeerValue) (plan : Plan) (result : Result Report TargetFault) (source' target' : PeerValue) → LawfulDatabase source.db → LawfulSessions refuses target → LawfulSessions refuses target'
    → Replicates refuses source target plan result source' target' → IsTiedPair source target plan.chosen → IfOk result (λ report. IsReported source target target' plan report → CoversFeed source target' plan.chosen source.db.update_seq)
replicates_whole refuses source target plan (Ok report) source' target' law l l' (ended read planned begun reads closes) tied =
    let grown = ended_grown refuses source target plan read planned reads target' closes.at_target in
    reported_whole refuses source target plan target' report law l l' begun grown tied
replicates_whole refuses source target plan result source' target' law l l' other tied = tt

-- an audit of the result is clean, for every selection
pub tied_clean : (refuses : Document → Bool) (source target source' target' : PeerValue) → LawfulSessions refuses target' → ((chosen : Choice) (backups : List BackupValue) → IsTiedWith backups source target chosen → IsTiedWith backups source' target' chosen)
    → (chosen : Choice) → IsTiedPair source target chosen → audit_answer source' target' chosen ≡ None
tied_clean refuses source target source' target' l' tied chosen h = tied_none refuses source' target' chosen l' (tied chosen [] (record { pair = h; copies = λ b m. absurd m })).pair

-- what holds on success, and what follows if the two peers are tied
pub both_told : (result : Result Report TargetFault) (told : Report → Type 0) (tied whole : Type 0) → IfOk result told → (tied → IfOk result (λ report. told report → whole)) → OnOk result (tied → whole)
both_told (Ok report) told tied whole is h = λ t. h t is
both_told (Err why) told tied whole is h = tt
