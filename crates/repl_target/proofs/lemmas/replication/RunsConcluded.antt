-- A completed replication: its session is reported, and the source's feed from its start is covered.
use Rattle.proof_prelude.proofs.{◌≡◌, ◌⊎◌, ℕ, suc, ◌+◌, ◌==◌, Bool, true, cond, List, [], ◌∷◌, Option, Some, None, Result, Ok, Err, is_ok, OnOk, IfOk, refl, sym, ap, ◌∙◌, subst, inl, inr, arith, eqb, IsDistinct, cond_both, cond-true, false≢true, AllocError, find, eqb-true, eq-eqb}
use Rattle.rev_tree.specs.{SessionId}
use Rattle.doc_json.specs.Document.{Document}
use Rattle.couch_base.specs.{Among, none_some, DatabaseValue, LawfulDatabase}
use Rattle.range_front.specs.{low_water}
use Rattle.repl_log.specs.{AddUp}
use Rattle.repl_peer.specs.{Scope, PeerValue, SessionValue, is_of, session_in, with_session, LawfulSessions, session_numbers, found_answer, on_found, on_session, recorded_at, report_of, conclude_in, conclude_answer, after_conclude, Report, TargetFault}
use Rattle.repl_target.specs.{Reading, plan_answer, Carries, Reads, start_between, begins_answer, after_begins, first_reading, closed_as, closed, told_by, Closes, is_due, CoversFrom, IsReported, ReadsAll, ReadsUntil, Replicates, not_planned, no_memory, not_begun, cut, ended, Plan, Conclude, IsGrown}
use Rattle.repl_peer.specs.declared.fault.TargetFault.TheVariants as faults
use Rattle.repl_peer.proofs.{one_session, session_found, with_session_holds}
use Rattle.repl_target.proofs.lemmas.replication.CallLaws.{grown_law}
use Rattle.repl_target.proofs.lemmas.replication.BegunSessions.{later_session, later_covers}
use Rattle.repl_target.proofs.lemmas.replication.ReplicationAsCalls.{grown-later, grown-one, read_grown}

-- ---- lists

pub not_missed : {X : Type 0} (p : X → Bool) (xs : List X) (x : X) → Among x xs → p x ≡ true → find p xs ≡ None → ⊥
not_missed p [] x m h none = absurd m
not_missed p (y ∷ ys) x m h none =
    cond_both (p y) (Some y) (find p ys) (λ o. o ≡ None → ⊥)
    (λ _ k. none_some y (sym k))
    (λ no k. elim m [ inl here ↦ false≢true (sym no ∙ ap p (sym here) ∙ h) | inr there ↦ not_missed p ys x there h k ])
    none

-- the session with an id is found
pub found-is : (sessions : List SessionValue) (id : SessionId) (s : SessionValue) → IsDistinct eqb (session_numbers sessions) → Among s sessions → s.id ≡ id → session_in sessions id ≡ Some s
found-is sessions id s distinct held same = go (session_in sessions id) refl
  where
    number : s.id.0 ≡ id.0
    number = ap (λ (i : SessionId). i.0) same

    go : (o : Option SessionValue) → session_in sessions id ≡ o → o ≡ Some s
    go None e = absurd (not_missed (is_of id) sessions s held (eq-eqb s.id.0 id.0 number) e)
    go (Some t) e = let f = session_found sessions id t e in ap Some (one_session sessions t s distinct f.0 held (f.1 ∙ sym number))

-- ---- a concluded session

pub record Closed (p : PeerValue) (id : SessionId) (at : ℕ) (report : Report) (now : PeerValue) : Type 0 where
  pub session : SessionValue
  pub was : session_in p.sessions id ≡ Some session
  pub reached : low_water session.front ≡ session.goal
  pub is : report ≡ report_of (recorded_at at session)
  pub held : Among (recorded_at at session) now.sessions

closes_in : (p : PeerValue) (id : SessionId) (at : ℕ) (report : Report) (now : PeerValue) → conclude_answer p id ≡ Ok report → now ≡ after_conclude p id at → Closed p id at report now
closes_in p id at report now answer after = go (session_in p.sessions id) refl answer
  where
    ok_is : (x y : Report) → ◌≡◌ {A = Result Report TargetFault} (Ok x) (Ok y) → x ≡ y
    ok_is x y e = cc

    go : (o : Option SessionValue) → session_in p.sessions id ≡ o → found_answer conclude_in o ≡ Ok report → Closed p id at report now
    go None e h = absurd (false≢true (ap is_ok h))
    go (Some s) e h =
        let change : SessionValue → SessionValue = λ x. cond (low_water x.front == x.goal) (recorded_at at x) x in
        cond_both (low_water s.front == s.goal) (Ok (report_of (record s { recorded = low_water s.front }))) (Err (faults.Unfinished (low_water s.front))) (λ (r : Result Report TargetFault). r ≡ Ok report → Closed p id at report now)
        (λ t k.
        let is : now ≡ record p { sessions = with_session p.sessions (recorded_at at s) } =
        after ∙ ap (on_found p change) e ∙ ap (λ x. record p { sessions = with_session p.sessions x }) (cond-true (low_water s.front == s.goal) (recorded_at at s) s t) in
        record {
          session = s;
          was = e;
          reached = eqb-true _ _ t;
          is = ok_is _ _ (sym k);
          held = subst (λ (q : PeerValue). Among (recorded_at at s) q.sessions) (sym is) (with_session_holds p.sessions s (recorded_at at s) (session_found p.sessions id s e).0 refl);
        })
        (λ _ k. absurd (false≢true (ap is_ok k)))
        h

-- a target that has grown by messages of the source, and whose session is concluded
module _ (refuses : Document → Bool) (source target : PeerValue) (plan : Plan) (p : PeerValue) (report : Report) (now : PeerValue) where
  pub record Concludes : Type 0 where
    pub grown : IsGrown refuses source.db plan.chosen plan.session (after_begins source target plan) now
    pub law : LawfulSessions refuses now
    pub closed : Closed p plan.session plan.at report now
    pub reported : IsReported source target now plan report
    pub same : reported.session ≡ recorded_at plan.at closed.session
    pub covered : CoversFrom source now plan.chosen (start_between source target plan.chosen)

  pub concludes : LawfulDatabase source.db → LawfulSessions refuses (after_begins source target plan) → begins_answer source target plan ≡ Ok tt → IsGrown refuses source.db plan.chosen plan.session (after_begins source target plan) p
      → conclude_answer p plan.session ≡ Ok report → now ≡ after_conclude p plan.session plan.at → Concludes
  concludes law l ok grown answer after =
      let begun = after_begins source target plan in
      let whole = grown-later refuses source.db plan.chosen plan.session begun p now grown (grown-one refuses source.db plan.chosen plan.session p now (Conclude plan.session plan.at) refl after) in
      let t = later_session refuses source target plan now law l ok whole in
      let l' = (grown_law refuses source.db plan.chosen plan.session begun now law whole l).0 in
      let c = closes_in p plan.session plan.at report now answer after in
      let same : t.session ≡ recorded_at plan.at c.session = one_session now.sessions t.session (recorded_at plan.at c.session) l'.distinct t.held c.held (ap (λ (i : SessionId). i.0) t.id ∙ sym (session_found p.sessions plan.session c.session c.was).1) in
      let is : report ≡ report_of t.session = c.is ∙ ap report_of (sym same) in
      let recorded : t.session.recorded ≡ source.db.update_seq =
      ap (λ (s : SessionValue). s.recorded) same ∙ c.reached ∙ sym (ap (λ (s : SessionValue). s.goal) same) ∙ ap (λ (c : Scope). c.goal) t.scope in
      record {
        grown = whole;
        law = l';
        closed = c;
        reported = record {
          session = t.session;
          held = found-is now.sessions plan.session t.session l'.distinct t.held t.id;
          is = is;
          scope = t.scope;
          start = ap (λ (r : Report). r.start) is ∙ t.start;
          recorded = ap (λ (r : Report). r.recorded) is ∙ recorded;
          counts = subst AddUp (ap (λ (x : Report). x.counts) (sym is)) (l'.sessions t.session t.held).read;
        };
        same = same;
        covered = later_covers refuses source target plan now l' t (omega (arith, recorded));
      }

-- ---- the conditions of the code

-- a session with an id is found
held-found : (sessions : List SessionValue) (id : SessionId) (s : SessionValue) → Among s sessions → s.id.0 ≡ id.0 → (t : SessionValue) × (session_in sessions id ≡ Some t)
held-found sessions id s held number = go (session_in sessions id) refl
  where
    go : (o : Option SessionValue) → session_in sessions id ≡ o → (t : SessionValue) × (o ≡ Some t)
    go None e = absurd (not_missed (is_of id) sessions s held (eq-eqb s.id.0 id.0 number) e)
    go (Some t) e = (t, refl)

-- a changed session is still found
changed-found : (p : PeerValue) (id : SessionId) (change : SessionValue → SessionValue) → ((x : SessionValue) → (change x).id ≡ x.id) → (s : SessionValue) → session_in p.sessions id ≡ Some s
    → (t : SessionValue) × (session_in (on_session p id change).sessions id ≡ Some t)
changed-found p id change same s is =
    let found = session_found p.sessions id s is in
    subst (λ (q : PeerValue). (t : SessionValue) × (session_in q.sessions id ≡ Some t)) (sym (ap (on_found p change) is))
    (held-found (with_session p.sessions (change s)) id (change s) (with_session_holds p.sessions s (change s) found.0 (same s)) (ap (λ (i : SessionId). i.0) (same s) ∙ found.1))

pub closed-found : (p : PeerValue) (plan : Plan) (s : SessionValue) → session_in p.sessions plan.session ≡ Some s → (t : SessionValue) × (session_in (closed p plan).sessions plan.session ≡ Some t)
closed-found p plan s is = go (conclude_answer p plan.session)
  where
    change : SessionValue → SessionValue
    change x = cond (low_water x.front == x.goal) (recorded_at plan.at x) x

    first : (t : SessionValue) × (session_in (after_conclude p plan.session plan.at).sessions plan.session ≡ Some t)
    first = changed-found p plan.session change (λ x. cond_both (low_water x.front == x.goal) (recorded_at plan.at x) x (λ y. y.id ≡ x.id) (λ _. refl) (λ _. refl)) s is

    go : (r : Result Report TargetFault) → (t : SessionValue) × (session_in (closed_as p plan r).sessions plan.session ≡ Some t)
    go (Ok report) = first
    go (Err fault) = changed-found (after_conclude p plan.session plan.at) plan.session (recorded_at plan.at) (λ x. refl) first.0 first.1

one_more : (n : ℕ) → suc n ≡ n + 1
one_more n = omega arith

pub reads_more : (refuses : Document → Bool) (source : DatabaseValue) (plan : Plan) (n : ℕ) (from before to : Reading)
    → Reads refuses source plan n from before → is_due source plan n before.since ≡ true → Carries refuses source plan before to → Reads refuses source plan (n + 1) from to
reads_more refuses source plan n from before to reads due carries = subst (λ m. Reads refuses source plan m from to) (one_more n) (before, reads, due, carries)

-- ---- a replication

-- the session has begun, and nothing is read
pub record Started (source target : PeerValue) (plan : Plan) (from : Reading) : Type 0 where
  pub planned : plan_answer source.db.uuid target.db.uuid plan ≡ Ok tt
  pub begun : begins_answer source target plan ≡ Ok tt
  pub is : from ≡ first_reading source target plan

pub refused_plan : (refuses : Document → Bool) (source target : PeerValue) (plan : Plan) (result : Result Report TargetFault) (why : TargetFault)
    → plan_answer source.db.uuid target.db.uuid plan ≡ Err why → result ≡ Err why → Replicates refuses source target plan result source target
refused_plan refuses source target plan result why h e = subst (λ r. Replicates refuses source target plan r source target) (sym e) (not_planned h)

pub refused_begin : (refuses : Document → Bool) (source target : PeerValue) (plan : Plan) (result : Result Report TargetFault) (why : TargetFault) (target' : PeerValue)
    → plan_answer source.db.uuid target.db.uuid plan ≡ Ok tt → ((why ≡ faults.Memory) ⊎ (begins_answer source target plan ≡ Err why)) → target' ≡ target → result ≡ Err why → Replicates refuses source target plan result source target'
refused_begin refuses source target plan result why target' planned refused same e =
    let at : Replicates refuses source target plan (Err why) source target =
    elim refused [
      | inl none ↦ subst (λ w. Replicates refuses source target plan (Err w) source target) (sym none) (no_memory planned)
      | inr why ↦ not_begun planned why
    ] in
    subst (λ r. Replicates refuses source target plan r source target') (sym e) (subst (λ q. Replicates refuses source target plan (Err why) source q) (sym same) at)

pub cut_short : (refuses : Document → Bool) (source target : PeerValue) (plan : Plan) (from : Reading) (why : TargetFault) (target' : PeerValue) (result : Result Report TargetFault)
    → Started source target plan from → ReadsUntil refuses source.db plan from why target' → result ≡ Err why → Replicates refuses source target plan result source target'
cut_short refuses source target plan from why target' result s reads e =
    subst (λ r. Replicates refuses source target plan r source target') (sym e) (cut s.planned s.begun (subst (λ f. ReadsUntil refuses source.db plan f why target') s.is reads))

pub ended_all : (refuses : Document → Bool) (source target : PeerValue) (plan : Plan) (from : Reading) (read : PeerValue) (result : Result Report TargetFault) (source' target' : PeerValue)
    → Started source target plan from → ReadsAll refuses source.db plan from read → Closes source read plan result source' target' → Replicates refuses source target plan result source' target'
ended_all refuses source target plan from read result source' target' s reads closes =
    ended read s.planned s.begun (subst (λ f. ReadsAll refuses source.db plan f read) s.is reads) closes

-- if all is read
module _ (refuses : Document → Bool) (source target : PeerValue) (plan : Plan) (from : Reading) (read : PeerValue) (s : Started source target plan from) (law : LawfulDatabase source.db) (lawful : LawfulSessions refuses from.target) (reads : ReadsAll refuses source.db plan from read) where
  begun-lawful : LawfulSessions refuses (after_begins source target plan)
  begun-lawful = subst (λ (f : Reading). LawfulSessions refuses f.target) s.is lawful

  grown : IsGrown refuses source.db plan.chosen plan.session (after_begins source target plan) read
  grown = read_grown refuses source target plan read s.planned (subst (λ f. ReadsAll refuses source.db plan f read) s.is reads)

  pub all-found : (t : SessionValue) × (session_in read.sessions plan.session ≡ Some t)
  all-found =
      let t = later_session refuses source target plan read law begun-lawful s.begun grown in
      held-found read.sessions plan.session t.session t.held (ap (λ (i : SessionId). i.0) t.id)

  -- the result of a replication, after an entry is stored at the source
  told : (answer : Result Report TargetFault) (put : Result (Unit {0}) AllocError) (report : Report) → told_by answer put ≡ Ok report → answer ≡ Ok report
  told answer (Ok done) report h = h
  told answer (Err why) report h = absurd (false≢true (ap is_ok h))

  pub all-concludes : (report : Report) (source' target' : PeerValue) → Closes source read plan (Ok report) source' target' → Concludes refuses source target plan read report target'
  all-concludes report source' target' c =
      let answer : conclude_answer read plan.session ≡ Ok report = told (conclude_answer read plan.session) c.put report (sym c.answer) in
      concludes refuses source target plan read report target' law begun-lawful s.begun grown answer (c.at_target ∙ ap (closed_as read plan) answer)

  pub all-covered : (result : Result Report TargetFault) (source' target' : PeerValue) → Closes source read plan result source' target' → OnOk result (CoversFrom source target' plan.chosen (start_between source target plan.chosen))
  all-covered (Err why) source' target' closes = tt
  all-covered (Ok report) source' target' closes = (all-concludes report source' target' closes).covered

  pub all-reported : (result : Result Report TargetFault) (source' target' : PeerValue) → Closes source read plan result source' target' → IfOk result (λ report. IsReported source target target' plan report)
  all-reported (Err why) source' target' closes = tt
  all-reported (Ok report) source' target' closes = (all-concludes report source' target' closes).reported
