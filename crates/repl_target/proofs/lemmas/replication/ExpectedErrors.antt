-- The errors of a replication by one thread between tied peers.
use Rattle.proof_prelude.proofs.{◌≡◌, ◌⊎◌, ℕ, ◌<◌, ◌≤◌, ◌==◌, ◌&&◌, nat_lt, zero, suc, Bool, true, false, not, is_some, cond, List, [], ◌∷◌, ◌++◌, Option, Some, None, Result, Ok, Err, is_ok, IfErr, refl, sym, ap, ◌∙◌, subst, inl, inr, arith, find, list_all, list_any, bytes_eq, bytes_eq-Decides, and_from, and_parts, both_ways, cases_Bool, cases_lt, cond_both, cond-true, cond-false, eq-eqb, eqb-true, eqb-false, true≢false, false≢true, le-ltb, lt-ltb, ltb-true, ltb-false, leb-true, false_from_ne_true, AllocError}
use Rattle.rev_core.specs.{RevId}
use Rattle.rev_tree.specs.{SessionId}
use Rattle.doc_json.specs.Document.{Document}
use Rattle.couch_base.specs.{Among, LawfulDatabase, WindowValue, RowValue, WantedValue, ParcelValue, IsParcel, IsWindow, IsParcel-open_revs, IsAsked-revs_diff, revs_diff, put_answer, Among-last, any_member, any_from, all_member, found_member, brings}
use Rattle.couch_base.specs.Messages.{is_wanted}
use Rattle.range_front.specs.Front.{all_done}
use Rattle.range_front.specs.{FrontWindow, FrontValue, end_from, end_of, low_water, low_in, low_in-is, finished_from, is_done, is_done-appended, is_window-is_done, is_window-within, end_of-appended, end_of-finished, appended, finished}
use Rattle.repl_log.specs.{EntryValue, common-IsCommon, common-le, same_rep, same_rep-self, is_of}
use Rattle.repl_log.specs.declared.replication.RepId.{RepId}
use Rattle.repl_peer.specs.{Reason, Report, Scope, Settled, TargetFault, PeerValue, SessionValue, session_in, holds, with_session, refusal_of, covers, covers_window, source_log, target_log, rep_between, start_answer, on_base, base_in, base_answer, goal_answer, begun, new_session, on_found, found_answer, next_in, append_in, append_answer, with_window, after_append, report_of, conclude_in, conclude_answer, fed, with_arrival, is_full, Settling, settle_as, settle_one, settle_docs, settling_of, after_documents, after_all, has_row, has_room, window_in, settle_at, settle_check, with_done, SettlesAt, Settles, SettleGives, is_uncovered, LawfulSessions}
use Rattle.repl_peer.specs.declared.fault.TargetFault.TheVariants as faults
use Rattle.repl_peer.proofs.{append_law, count_full, documents_law, ends_law, one_session, one_window, passes_all, session_found, settle_ends, windows-consecutive, with_session_holds}
use Rattle.repl_peer.proofs.lemmas.session.FirstUnknownLeaf.{rows_known}
use Rattle.repl_target.specs.{Plan, IsExpected, StopsShort, IsTiedPair, IsTiedParcel, IsPageOf, Reading, Reads, ReadsAll, ReadsUntil, Carries, WindowRefused, Closes, Replicates, not_planned, no_memory, not_begun, cut, ended, is_batch, is_due, plan_answer, begins_answer, after_begins, beginning_between, scope_between, start_at, start_between, base_at, checkpoint_of, next_window, parcel_for, first_reading, told_by}
use Rattle.repl_target.specs.replication.Replication.{has_left}
use Rattle.repl_target.proofs.lemmas.replication.CallLaws.{page_window}
use Rattle.repl_target.proofs.lemmas.replication.ReplicationAsCalls.{begun_law, planned_batch}
use Rattle.repl_target.proofs.lemmas.replication.RunsConcluded.{found-is, not_missed}
use Rattle.repl_target.proofs.lemmas.ties.SettlingTakes.{own_covered}
use Rattle.repl_target.proofs.lemmas.ties.TiedMessages.{IsTiedAsked-revs_diff, IsTiedParcel-open_revs}
use Rattle.repl_target.proofs.lemmas.ties.TiedPages.{page_within}
use Rattle.repl_target.proofs.lemmas.ties.TiedPeersCover.{entry_session, start_reached}

-- the result of an error, and its error
err_is : {A : Type 0} (a b : TargetFault) → ◌≡◌ {A = Result A TargetFault} (Err a) (Err b) → a ≡ b
err_is a b e = cc

no_err : {A : Type 0} (x : A) (why : TargetFault) → ◌≡◌ {A = Result A TargetFault} (Ok x) (Err why) → ⊥
no_err x why e = true≢false (ap is_ok e)

all_from : {X : Type 0} (p : X → Bool) (xs : List X) → ((x : X) → Among x xs → p x ≡ true) → list_all p xs ≡ true
all_from p [] h = refl
all_from p (x ∷ xs) h = and_from _ _ (h x (inl refl)) (all_from p xs (λ y m. h y (inr m)))

-- ---- fronts whose windows are all done

-- the windows from a bound on, with the last one marked
done_more : (from : ℕ) (ws : List FrontWindow) (lo hi : ℕ) → list_all (λ (w : FrontWindow). w.done) ws ≡ true → end_from from ws ≡ lo
    → list_all (λ (w : FrontWindow). w.done) (finished_from from (ws ++ record { hi = hi; done = false } ∷ []) lo hi) ≡ true
done_more from [] lo hi h e =
    let last : FrontWindow = record { hi = hi; done = false } in
    and_from _ _ (ap (λ (v : FrontWindow). v.done) (cond-true ((from == lo) && (hi == hi)) (record last { done = true }) last (and_from _ _ (eq-eqb _ _ e) (eq-eqb _ _ refl)))) refl
done_more from (w ∷ ws) lo hi h e =
    let parts = and_parts _ _ h in
    and_from _ _ (cond_both ((from == lo) && (w.hi == hi)) (record w { done = true }) w (λ (v : FrontWindow). v.done ≡ true) (λ _. refl) (λ _. parts.0)) (done_more w.hi ws lo hi parts.1 e)

low_all : (from : ℕ) (ws : List FrontWindow) → list_all (λ (w : FrontWindow). w.done) ws ≡ true → low_in from ws ≡ end_from from ws
low_all from [] h = refl
low_all from (w ∷ ws) h = let parts = and_parts _ _ h in cond-true w.done (low_in w.hi ws) from parts.0 ∙ low_all w.hi ws parts.1

all_low : (f : FrontValue) → all_done f ≡ true → low_water f ≡ end_of f
all_low f h = low_in-is f.start f.windows ∙ low_all f.start f.windows h

-- ---- settling keeps the front and the scope of its session

pub record KeepsFront (s t : SessionValue) : Type 0 where
  pub front : t.front ≡ s.front
  pub scope : t.scope ≡ s.scope
  pub id : t.id ≡ s.id

front_as : (w : WindowValue) (z : Settling) (d : Document) (o : Option Reason) → KeepsFront z.session (settle_as w z d o).session
front_as w z d (Some reason) = record { front = refl; scope = refl; id = refl }
front_as w z d None =
    cond_both (is_full (put_answer z.db d)) z _ (λ (y : Settling). KeepsFront z.session y.session)
    (λ _. record { front = refl; scope = refl; id = refl }) (λ _. record { front = refl; scope = refl; id = refl })

front_kept : (refuses : Document → Bool) (w : WindowValue) (z : Settling) (docs : List Document) → KeepsFront z.session (settle_docs refuses w z docs).session
front_kept refuses w z [] = record { front = refl; scope = refl; id = refl }
front_kept refuses w z (d ∷ docs) =
    let one = front_as w z d (refusal_of refuses z.db d) in
    let k = front_kept refuses w (settle_one refuses w z d) docs in
    record { front = k.front ∙ one.front; scope = k.scope ∙ one.scope; id = k.id ∙ one.id }

-- ---- a plan that is not valid, and a session that does not begin

pub plan_expected : (source target : PeerValue) (plan : Plan) (why : TargetFault) → plan_answer source.db.uuid target.db.uuid plan ≡ Err why → IsExpected source target plan why
plan_expected source target plan why h =
    cond_both (is_batch plan.batch) (cond (source.db.uuid == target.db.uuid) (Err faults.SamePeer) (Ok tt)) (Err faults.BadBatch) (λ (r : Result (Unit {0}) TargetFault). r ≡ Err why → IsExpected source target plan why)
    (λ _. cond_both (source.db.uuid == target.db.uuid) (Err faults.SamePeer) (Ok tt) (λ (r : Result (Unit {0}) TargetFault). r ≡ Err why → IsExpected source target plan why)
    (λ same k. subst (IsExpected source target plan) (err_is _ _ k) (eqb-true _ _ same))
    (λ _ k. absurd (no_err _ _ k)))
    (λ other k. subst (IsExpected source target plan) (err_is _ _ k) other)
    h

-- the base is a session of the replication that has recorded at least the start
base_known : (refuses : Document → Bool) (source target : PeerValue) (plan : Plan) → LawfulSessions refuses target
    → base_answer target.sessions (rep_between source target plan.chosen) (base_at (checkpoint_of source target plan.chosen)) (start_between source target plan.chosen) ≡ Ok tt
base_known refuses source target plan law = go (checkpoint_of source target plan.chosen) refl
  where
    go : (o : Option (SessionId × ℕ)) → checkpoint_of source target plan.chosen ≡ o → base_answer target.sessions (rep_between source target plan.chosen) (base_at o) (start_at o) ≡ Ok tt
    go None e = refl
    go (Some c) e =
        let r = rep_between source target plan.chosen in
        let k = common-IsCommon (source_log source r) (target_log target r) c e in
        let f = found_member (is_of c.0) (target_log target r) k.at_target k.target_has in
        let s = entry_session target r k.at_target f.0 in
        let le = common-le _ _ c.0 c.1 k in
        let recorded : k.at_target.recorded ≡ s.0.recorded = ap (λ (y : EntryValue). y.recorded) s.3 in
        let number : s.0.id.0 ≡ c.0.0 = sym (ap (λ (y : EntryValue). y.session.0) s.3) ∙ eqb-true _ _ f.1 in
        let test : SessionValue → Bool = λ x. (x.id.0 == c.0.0) && same_rep x.rep r in
        let passes : test s.0 ≡ true = and_from _ _ (eq-eqb _ _ number) (ap (λ (x : RepId). same_rep x r) s.2 ∙ same_rep-self r) in
        based c s.0 s.1 number (omega (arith, le.1, recorded)) passes (base_in target.sessions r c.0) refl
      where
        based : (c : SessionId × ℕ) (s : SessionValue) → Among s target.sessions → s.id.0 ≡ c.0.0 → c.1 ≤ s.recorded → ((s.id.0 == c.0.0) && same_rep s.rep (rep_between source target plan.chosen)) ≡ true
            → (o : Option SessionValue) → base_in target.sessions (rep_between source target plan.chosen) c.0 ≡ o → on_base c.1 o ≡ Ok tt
        based c s m number less passes None e = absurd (not_missed (λ (x : SessionValue). (x.id.0 == c.0.0) && same_rep x.rep (rep_between source target plan.chosen)) target.sessions s m passes e)
        based c s m number less passes (Some b) e =
            let f = found_member (λ (x : SessionValue). (x.id.0 == c.0.0) && same_rep x.rep (rep_between source target plan.chosen)) target.sessions b e in
            let one : b ≡ s = one_session target.sessions b s law.distinct f.0 m (eqb-true _ _ (and_parts _ _ f.1).0 ∙ sym number) in
            let enough : c.1 ≤ b.recorded = subst (λ (x : SessionValue). c.1 ≤ x.recorded) (sym one) less in
            cond-false (nat_lt b.recorded c.1) (Err (faults.StartAboveBase b.recorded)) (Ok tt) (le-ltb b.recorded c.1 enough)

-- a session does not begin only if the target has its id
pub begins_refused : (refuses : Document → Bool) (source target : PeerValue) (plan : Plan) (why : TargetFault) → LawfulSessions refuses target → IsTiedPair source target plan.chosen → begins_answer source target plan ≡ Err why
    → (why ≡ faults.SessionExists) × (holds target.sessions plan.session ≡ true)
begins_refused refuses source target plan why law tied h =
    let start = start_between source target plan.chosen in
    let goal = source.db.update_seq in
    let base = base_answer target.sessions (rep_between source target plan.chosen) (base_at (checkpoint_of source target plan.chosen)) start in
    let within = (start_reached refuses source target plan.chosen law tied).within in
    let free : goal_answer start goal base ≡ Ok tt =
    ap (goal_answer start goal) (base_known refuses source target plan law) ∙ cond-false (nat_lt goal start) (Err faults.GoalBelowStart) (Ok tt) (le-ltb goal start within) in
    cond_both (holds target.sessions plan.session) (Err faults.SessionExists) (goal_answer start goal base) (λ (r : Result (Unit {0}) TargetFault). r ≡ Err why → (why ≡ faults.SessionExists) × (holds target.sessions plan.session ≡ true))
    (λ exists k. (sym (err_is _ _ k), exists))
    (λ _ k. absurd (no_err _ _ (sym free ∙ k)))
    h

begins_expected : (refuses : Document → Bool) (source target : PeerValue) (plan : Plan) (why : TargetFault) → LawfulSessions refuses target → IsTiedPair source target plan.chosen → begins_answer source target plan ≡ Err why → IsExpected source target plan why
begins_expected refuses source target plan why law tied h = let k = begins_refused refuses source target plan why law tied h in subst (IsExpected source target plan) (sym k.0) k.1

-- a session that begins does not start above its goal
goal_above : (start goal : ℕ) (r : Result (Unit {0}) TargetFault) → goal_answer start goal r ≡ Ok tt → start ≤ goal
goal_above start goal (Err fault) h = absurd (false≢true (ap is_ok h))
goal_above start goal (Ok done) h =
    cond_both (nat_lt goal start) (Err faults.GoalBelowStart) (Ok tt) (λ (r : Result (Unit {0}) TargetFault). r ≡ Ok tt → start ≤ goal)
    (λ _ k. absurd (false≢true (ap is_ok k))) (λ e _. ltb-false goal start e) h

begun_within : (source target : PeerValue) (plan : Plan) → begins_answer source target plan ≡ Ok tt → start_between source target plan.chosen ≤ source.db.update_seq
begun_within source target plan h =
    let start = start_between source target plan.chosen in
    let answer = goal_answer start source.db.update_seq (base_answer target.sessions (rep_between source target plan.chosen) (base_at (checkpoint_of source target plan.chosen)) start) in
    cond_both (holds target.sessions plan.session) (Err faults.SessionExists) answer (λ (r : Result (Unit {0}) TargetFault). r ≡ Ok tt → start ≤ source.db.update_seq)
    (λ _ k. absurd (false≢true (ap is_ok k))) (λ _ k. goal_above start source.db.update_seq _ k) h

-- ---- windows

module _ (refuses : Document → Bool) (source target : PeerValue) (plan : Plan) (law : LawfulDatabase source.db) (batch : is_batch plan.batch ≡ true) where
  -- the session after all windows up to a sequence
  pub record ReadTo (now : Reading) : Type 0 where
    pub session : SessionValue
    pub held : Among session now.target.sessions
    pub id : session.id ≡ plan.session
    pub scope : session.scope ≡ scope_between source target plan.chosen
    pub end : end_of session.front ≡ now.since
    pub done : all_done session.front ≡ true
    pub lawful : LawfulSessions refuses now.target
    pub within : now.since ≤ source.db.update_seq

  begun_read : begins_answer source target plan ≡ Ok tt → LawfulSessions refuses target → ReadTo (first_reading source target plan)
  begun_read ok l =
      let new = new_session plan.session (beginning_between source target plan.chosen) plan.at in
      let is : after_begins source target plan ≡ record target { sessions = new ∷ target.sessions } = ap (begun target new) ok in
      record {
        session = new;
        held = subst (λ (q : PeerValue). Among new q.sessions) (sym is) (inl refl);
        id = refl;
        scope = refl;
        end = refl;
        done = refl;
        lawful = (begun_law refuses source target plan l).0;
        within = begun_within source target plan ok;
      }

  module _ (now : Reading) (r : ReadTo now) (due : now.since < source.db.update_seq) where
    abbrev window : WindowValue
    window = next_window source.db plan now.since

    abbrev parcel : ParcelValue
    parcel = parcel_for source.db now.target window

    -- the session with the window
    abbrev longer : SessionValue
    longer = with_window window r.session (Ok tt)

    abbrev stored : PeerValue
    stored = after_append now.target plan.session window

    page : IsPageOf source.db plan.chosen window
    page = record {
      since = now.since;
      goal = source.db.update_seq;
      limit = plan.batch;
      some = leb-true 1 plan.batch (and_parts _ _ batch).0;
      above = due;
      within = omega arith;
      is = refl;
    }

    paged : IsWindow window
    paged = (page_window source.db plan.chosen window law page).0

    below : window.hi ≤ source.db.update_seq
    below = page_within source.db now.since source.db.update_seq plan.batch plan.chosen r.within

    found : session_in now.target.sessions plan.session ≡ Some r.session
    found = found-is now.target.sessions plan.session r.session r.lawful.distinct r.held r.id

    appends : append_in window r.session ≡ Ok tt
    appends =
        let s = r.session in
        let life : window.life ≡ s.life = sym (ap (λ (c : Scope). c.life) r.scope) in
        let goal : s.goal ≡ source.db.update_seq = ap (λ (c : Scope). c.goal) r.scope in
        cond-true (window.life == s.life) (next_in window s) (Err (faults.OtherLife s.life)) (eq-eqb _ _ life)
        ∙ cond-true (window.lo == end_of s.front) (cond (nat_lt s.goal window.hi) (Err faults.PastGoal) (Ok tt)) (Err (faults.Gap (end_of s.front))) (eq-eqb _ _ (sym r.end))
        ∙ cond-false (nat_lt s.goal window.hi) (Err faults.PastGoal) (Ok tt) (le-ltb s.goal window.hi (omega (arith, goal, below)))

    append_ok : append_answer now.target plan.session window ≡ Ok tt
    append_ok = ap (found_answer (append_in window)) found ∙ appends

    stored_is : stored ≡ record now.target { sessions = with_session now.target.sessions longer }
    stored_is =
        ap (on_found now.target (λ s. with_window window s (append_in window s))) found
        ∙ ap (λ x. record now.target { sessions = with_session now.target.sessions (with_window window r.session x) }) appends

    held : Among longer stored.sessions
    held = subst (λ (q : PeerValue). Among longer q.sessions) (sym stored_is) (with_session_holds now.target.sessions r.session longer r.held refl)

    lawful : LawfulSessions refuses stored
    lawful = (append_law refuses now.target plan.session r.lawful window paged (page_window source.db plan.chosen window law page).1).0

    among : Among window longer.windows
    among = Among-last window r.session.windows

    window_found : window_in longer window.lo window.hi ≡ Some window
    window_found = go (window_in longer window.lo window.hi) refl
      where
        go : (o : Option WindowValue) → window_in longer window.lo window.hi ≡ o → o ≡ Some window
        go None e = absurd (not_missed (λ (v : WindowValue). (v.lo == window.lo) && (v.hi == window.hi)) longer.windows window among (and_from (window.lo == window.lo) (window.hi == window.hi) (eq-eqb window.lo window.lo refl) (eq-eqb window.hi window.hi refl)) e)
        go (Some v) e =
            let f = found_member (λ (v : WindowValue). (v.lo == window.lo) && (v.hi == window.hi)) longer.windows v e in
            let parts = and_parts _ _ f.1 in
            let lo : v.lo ≡ window.lo = eqb-true _ _ parts.0 in
            let hi : v.hi ≡ window.hi = eqb-true _ _ parts.1 in
            let own = lawful.sessions longer held in
            let follows = windows-consecutive longer.front longer.windows own.bounds own.front in
            let range = paged.range in
            ap (λ x. Some x) (one_window longer.front.start longer.windows v window window.hi follows f.0 among (omega (arith, lo, range)) (omega (arith, hi)) range (omega arith))

    tied : IsTiedParcel stored.db window parcel
    tied =
        subst (λ (q : PeerValue). IsTiedParcel q.db window parcel) (sym stored_is)
        (IsTiedParcel-open_revs source.db now.target.db plan.chosen window (revs_diff now.target.db window) (page_window source.db plan.chosen window law page).2 (IsTiedAsked-revs_diff now.target.db window))

    whole : IsParcel parcel
    whole = IsParcel-open_revs source.db (revs_diff now.target.db window) law (IsAsked-revs_diff now.target.db window paged)

    -- each document has a row in the window
    rows : list_all (has_row window) parcel.docs ≡ true
    rows = all_from (has_row window) parcel.docs (λ d m. has d (all_member (is_wanted parcel.asked.docs) d parcel.docs whole.wanted m))
      where
        has : (d : Document) → is_wanted parcel.asked.docs d ≡ true → has_row window d ≡ true
        has d wanted =
            let w = any_member (λ (w : WantedValue). list_any (λ r. brings w.id r d) w.revs) parcel.asked.docs wanted in
            let rev = any_member (λ r. brings w.0.id r d) w.0.revs w.2 in
            let same : d.id ≡ w.0.id = (bytes_eq-Decides d.id w.0.id).0 (and_parts _ _ rev.2).0 in
            let row = tied.asked.named w.0.id rev.0 (w.0, w.1, refl, rev.1) in
            any_from (λ (row : RowValue). bytes_eq row.id d.id) row.0 window.rows row.1 ((bytes_eq-Decides row.0.id d.id).1 (row.2 ∙ sym same))

    undone : is_done longer.front window.lo window.hi ≡ false
    undone = is_done-appended r.session.front window.hi window.lo window.hi ∙ go (cases_Bool (is_done r.session.front window.lo window.hi))
      where
        go : (is_done r.session.front window.lo window.hi ≡ true) ⊎ (is_done r.session.front window.lo window.hi ≡ false) → is_done r.session.front window.lo window.hi ≡ false
        go (inl before) =
            let own = r.lawful.sessions r.session r.held in
            let inside = is_window-within r.session.front window.lo window.hi own.front (is_window-is_done r.session.front window.lo window.hi before) in
            let range = paged.range in
            absurd (omega (arith, inside.2, r.end, range))
        go (inr undone_yet) = undone_yet

    checked : settle_check stored plan.session parcel ≡ settle_at longer parcel (Some window)
    checked =
        ap (found_answer (λ (s : SessionValue). settle_at s parcel (window_in s parcel.asked.lo parcel.asked.hi))) (found-is stored.sessions plan.session longer lawful.distinct held r.id)
        ∙ ap (settle_at longer parcel) window_found

    -- the parcel is settled in its window, or a count is full
    settles : (result : Result Settled TargetFault) (q : PeerValue) → SettleGives refuses stored plan.session parcel result q → SettlesAt refuses stored parcel longer window result q ⊎ (result ≡ Err faults.CountFull)
    settles result q gives =
        let at = subst (λ (x : Result (SessionValue × WindowValue) TargetFault). Settles refuses stored parcel x result q) checked gives in
        elim (cases_Bool (has_room longer window parcel)) [
          | inl room ↦ inl (subst (λ (x : Result (SessionValue × WindowValue) TargetFault). Settles refuses stored parcel x result q) (passes_all longer parcel window rows undone room) at)
          | inr full ↦
              let refused = subst (λ (x : Result (SessionValue × WindowValue) TargetFault). Settles refuses stored parcel x result q) (count_full longer parcel window rows undone full) at in
              inr refused.0
        ]

    -- the session after the window is settled
    next_read : (after : Reading) (settled : Settled) → after.since ≡ window.hi → SettleGives refuses stored plan.session parcel (Ok settled) after.target → ReadTo after
    next_read after settled reached gives = elim (settles (Ok settled) after.target gives) [
      | inl at ↦ go at
      | inr full ↦ absurd (no_err _ _ full)
    ]
      where
        go : SettlesAt refuses stored parcel longer window (Ok settled) after.target → ReadTo after
        go h =
            let z = settle_docs refuses window (settling_of stored longer) parcel.docs in
            let documents = after_documents refuses stored longer window parcel.docs in
            let last = with_done window parcel z.session in
            let covered : covers_window documents window ≡ true = sym (rows_known (covers documents) window.rows) ∙ ap (λ o. not (is_some o)) h.1 in
            let is : after.target ≡ record documents { sessions = with_session documents.sessions last } =
            h.0.peer ∙ cond-true (covers_window documents window) (record documents { sessions = with_session documents.sessions last }) documents covered in
            let walked = documents_law refuses stored longer window parcel.docs held among rows lawful in
            let kept = front_kept refuses window (settling_of stored longer) parcel.docs in
            let front : last.front ≡ finished (appended r.session.front window.hi) window.lo window.hi = ap (λ f. finished f window.lo window.hi) kept.front in
            record {
              session = last;
              held = subst (λ (q : PeerValue). Among last q.sessions) (sym is) (with_session_holds documents.sessions z.session last walked.held refl);
              id = kept.id ∙ r.id;
              scope = kept.scope ∙ r.scope;
              end = ap end_of front ∙ end_of-finished (appended r.session.front window.hi) window.lo window.hi ∙ end_of-appended r.session.front window.hi ∙ sym reached;
              done = ap all_done front ∙ done_more r.session.front.start r.session.front.windows window.lo window.hi r.done r.end;
              lawful = (ends_law refuses stored plan.session lawful parcel after.target (settle_ends refuses stored plan.session parcel (Ok settled) after.target gives)).0;
              within = omega (arith, reached, below);
            }

    -- why a window fails
    at_window : (why : TargetFault) (q : PeerValue) → is_uncovered (Err why) ≡ false → SettlesAt refuses stored parcel longer window (Err why) q → IsExpected source target plan why
    at_window (faults.Uncovered seq id rev) q known h = absurd (true≢false known)
    at_window (faults.Stopped settled rest cause) q known h = tt
    at_window why q known h = absurd h

    window_expected : (why : TargetFault) (q : PeerValue) → WindowRefused refuses source.db plan now why q → IsExpected source target plan why
    window_expected why q refused = elim refused [
      | inl memory ↦ subst (IsExpected source target plan) (sym memory.0) tt
      | inr other ↦ elim other [
        | inl unstored ↦ absurd (no_err _ _ (sym append_ok ∙ unstored.0))
        | inr both ↦ elim (settles (Err why) q both.1) [
          | inl at ↦
              let gives = subst (λ (id : SessionId). SettleGives refuses stored id parcel (Err why) q) (sym r.id) both.1 in
              at_window why q (own_covered refuses stored longer window parcel lawful held among tied whole (Err why) q gives) at
          | inr full ↦ subst (IsExpected source target plan) (sym (err_is _ _ full)) tt
        ]
      ]
    ]

  -- ---- all windows

  carried_read : (before after : Reading) (n : ℕ) → is_due source.db plan n before.since ≡ true → Carries refuses source.db plan before after → ReadTo before → ReadTo after
  carried_read before after n due c r =
      let p = before.target in
      let gives = subst (λ v. SettleGives refuses (after_append p plan.session v) plan.session (parcel_for source.db p v) (Ok c.settled) after.target) c.read c.settles.1 in
      next_read before r (ltb-true _ _ (and_parts _ _ due).0) after c.settled (c.reached ∙ ap (λ (v : WindowValue). v.hi) c.read) gives

  reads_to : (n : ℕ) (from to : Reading) → Reads refuses source.db plan n from to → ReadTo from → ReadTo to
  reads_to zero from to is r = subst ReadTo (sym is) r
  reads_to (suc n) from to reads r = carried_read reads.0 to n reads.2 reads.3 (reads_to n from reads.0 reads.1 r)

  until_expected : (from : Reading) (why : TargetFault) (q : PeerValue) → ReadsUntil refuses source.db plan from why q → ReadTo from → IsExpected source target plan why
  until_expected from why q h r =
      window_expected h.1 (reads_to h.0 from h.1 h.2 r) (ltb-true _ _ (and_parts _ _ h.3).0) why q h.4

  -- ---- the end

  -- the plan allows no further window
  stops_short : (n : ℕ) (now : Reading) (low : ℕ) → is_due source.db plan n now.since ≡ false → now.since < source.db.update_seq → low ≡ now.since → StopsShort source plan low
  stops_short n now low over less is = go plan.stop_after refl (false_from_ne_true (has_left plan.stop_after n) (λ left. both_ways _ over (and_from _ _ (lt_test now.since source.db.update_seq less) left)))
    where
      lt_test : (a b : ℕ) → a < b → nat_lt a b ≡ true
      lt_test a b h = lt-ltb a b h

      go : (o : Option ℕ) → plan.stop_after ≡ o → has_left o n ≡ false → StopsShort source plan low
      go None e left = absurd (true≢false left)
      go (Some most) e left = (most, e, omega (arith, less, is))

  concluded_expected : (n : ℕ) (now : Reading) → is_due source.db plan n now.since ≡ false → (r : ReadTo now) → IfErr (conclude_answer now.target plan.session) (IsExpected source target plan)
  concluded_expected n now over r =
      let s = r.session in
      let found = found-is now.target.sessions plan.session s r.lawful.distinct r.held r.id in
      let low : low_water s.front ≡ now.since = all_low s.front r.done ∙ r.end in
      let goal : s.goal ≡ source.db.update_seq = ap (λ (c : Scope). c.goal) r.scope in
      subst (λ (x : Result Report TargetFault). IfErr x (IsExpected source target plan)) (sym (ap (found_answer conclude_in) found))
      (cond_both (low_water s.front == s.goal) (Ok (report_of (record s { recorded = low_water s.front }))) (Err (faults.Unfinished (low_water s.front))) (λ (x : Result Report TargetFault). IfErr x (IsExpected source target plan))
      (λ _. tt)
      (λ short. elim (cases_lt now.since source.db.update_seq) [
        | inl less ↦ stops_short n now (low_water s.front) over less low
        | inr reached ↦ (let within = r.within in absurd (eqb-false _ _ short (omega (arith, low, goal, reached, within))))
      ]))

told_expected : (P : TargetFault → Type 0) (answer : Result Report TargetFault) (put : Result (Unit {0}) AllocError) → P faults.Memory → IfErr answer P → IfErr (told_by answer put) P
told_expected P answer (Ok done) memory h = h
told_expected P answer (Err why) memory h = memory

-- each error of a replication between tied peers is an expected one
pub replicates_expected : (refuses : Document → Bool) (source target : PeerValue) (plan : Plan) (result : Result Report TargetFault) (source' target' : PeerValue) → LawfulDatabase source.db → LawfulSessions refuses target
    → Replicates refuses source target plan result source' target' → IfErr result (λ why. IsTiedPair source target plan.chosen → IsExpected source target plan why)
replicates_expected refuses source target plan (Err why) source' target' law l (not_planned h) = λ tied. plan_expected source target plan why h
replicates_expected refuses source target plan (Err why) source' target' law l (no_memory planned) = λ tied. tt
replicates_expected refuses source target plan (Err why) source' target' law l (not_begun planned h) = λ tied. begins_expected refuses source target plan why l tied h
replicates_expected refuses source target plan (Err why) source' target' law l (cut planned begun reads) =
    λ tied. until_expected refuses source target plan law (planned_batch source target plan planned) (first_reading source target plan) why target' reads
    (begun_read refuses source target plan law (planned_batch source target plan planned) begun l)
replicates_expected refuses source target plan result source' target' law l (ended read planned begun reads closes) =
    let batch = planned_batch source target plan planned in
    let P : TargetFault → Type 0 = λ why. IsTiedPair source target plan.chosen → IsExpected source target plan why in
    let r = reads_to refuses source target plan law batch reads.0 (first_reading source target plan) reads.1 reads.2 (begun_read refuses source target plan law batch begun l) in
    let concluded = concluded_expected refuses source target plan law batch reads.0 reads.1 reads.3 r in
    let at_read : IfErr (conclude_answer read plan.session) (IsExpected source target plan) =
    subst (λ (q : PeerValue). IfErr (conclude_answer q plan.session) (IsExpected source target plan)) (sym reads.4) concluded in
    subst (λ (x : Result Report TargetFault). IfErr x P) (sym closes.answer)
    (told_expected P (conclude_answer read plan.session) closes.put (λ _. tt) (weaker (conclude_answer read plan.session) at_read))
  where
    weaker : (x : Result Report TargetFault) → IfErr x (IsExpected source target plan) → IfErr x (λ why. IsTiedPair source target plan.chosen → IsExpected source target plan why)
    weaker (Ok report) h = tt
    weaker (Err why) h = λ tied. h
