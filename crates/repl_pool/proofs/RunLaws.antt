-- The guarantees of a run, from what the lock released.
use Rattle.proof_prelude.proofs.{◌≡◌, ◌⊎◌, ℕ, ◌<◌, ◌≤◌, ◌==◌, Bool, true, false, cond, nat_lt, List, [], Option, Some, None, Result, Ok, Err, is_ok, IfOk, IfErr, IfSome, sum, refl, sym, ap, ◌∙◌, subst, inl, inr, arith, cond_both, false≢true, nat_tests, same_Some}
use Rattle.rev_tree.specs.{SessionId}
use Rattle.doc_json.specs.Document.{Document}
use Rattle.couch_base.specs.{DatabaseValue, LawfulDatabase}
use Rattle.repl_peer.specs.{Report, TargetFault, PeerValue, LawfulSessions, read_in, record_answer}
use Rattle.repl_peer.specs.declared.fault.TargetFault.TheVariants as refusals
use Rattle.repl_target.specs.{Plan, IsGrown, IsLeft, CoversFeed, IsTiedPair, is_batch, begins_answer, after_begins}
use Rattle.repl_target.proofs.{others_same, others_tied, tied_none, grown-same, left_law, both_tied, puts_over, reported_whole, tied_clean}
use Rattle.repl_peer.proofs.{IsLaterPeer-same}
use Rattle.pool_workers.specs.{GrownPeer, TargetKeeps, IsLateOn, IsHaltOn, HaveShown, Place, PoolFault, HasNoWindows, KeepsPages}
use Rattle.pool_workers.specs.declared.fault.PoolFault.TheVariants as faults
use Rattle.pool_workers.proofs.{starts_pages}
use Rattle.repl_pool.specs.{IsConcluded, unfinished_at, IsRecorded, stopped, fewer, refused, UnlessMemory, PutsEntry, ClosesRun, concluded, recorded, EndsRun, EndsWell, EarlyOrLate, TellsLowWater, RunsOn, early_answer}
use Rattle.progress_board.specs.{Board, BoardSeat}
use Rattle.repl_pool.proofs.RunPages.{is_paged, closes_pages}
use Rattle.repl_pool.proofs.Ending.{ends_well}
use Rattle.repl_pool.proofs.LowWater.{recorded_tells}
use Rattle.repl_pool.proofs.RunErrors.{early_expected, begin_expected, run_expected}

-- ---- the given peer

module _ {F : Type 0} (refuses : F → Document → Bool) (source : DatabaseValue) (plan : Plan) where
  -- it is known which peer was given
  abbrev pub IsKnown : F × PeerValue → SessionId → ℕ → Option ℕ → F × PeerValue → Type 0
  IsKnown given run total more now =
      GrownPeer refuses source plan.chosen run given now × (read_in now.1.sessions run ≡ total) × KeepsPages source plan run more now.1.sessions

  from_given : (given : F × PeerValue) (run : SessionId) (session : SessionId) (total : ℕ) (more : Option ℕ) (now : F × PeerValue) → TargetKeeps refuses source plan (Some (given, run)) session total more now → IsKnown given run total more now
  from_given given run session total more now h =
      subst (λ (x : (F × PeerValue) × SessionId). IsKnown x.0 x.1 total more now) (sym (same_Some (given, run) (h.0, session) h.1)) (h.2, h.3, h.4)

module _ {F : Type 0} (refuses : F → Document → Bool) (db source : DatabaseValue) (origin : source ≡ db) (choice plan : Plan) (planning : plan ≡ choice) (given : F × PeerValue) (run : SessionId) (o : Option ((F × PeerValue) × SessionId)) (is : o ≡ Some (given, run)) where
  pub given_grown : (session : SessionId) (total : ℕ) (more : Option ℕ) (t : F × PeerValue) → TargetKeeps refuses source plan o session total more t → IsKnown refuses db choice given run total more t
  given_grown session total more t h =
      from_given refuses db choice given run session total more t
      (subst (λ c. TargetKeeps refuses db c (Some (given, run)) session total more t) planning (subst (λ s. TargetKeeps refuses s plan (Some (given, run)) session total more t) origin (subst (λ x. TargetKeeps refuses source plan x session total more t) is h)))

-- ---- the end of a run

-- the error for a halt is not an early error
halt_late : (B : Type 0) (P : Place → Type 0) (fault : PoolFault) → IsHaltOn B P fault → IsLateOn B P fault
halt_late B P (faults.Refused why) h = tt
halt_late B P fault h = h

unfinished_late : (B : Type 0) (P : Place → Type 0) (r : Result ℕ TargetFault) → IsLateOn B P (unfinished_at r)
unfinished_late B P (Ok n) = tt
unfinished_late B P (Err why) = tt

-- if the session is recorded, a reported halt is allowed by the gate
recorded_late : (B : Type 0) (P : Place → Type 0) (plan : Plan) (fault : Option PoolFault) (complete : Bool) (before after : PeerValue) (why : PoolFault) → IfSome fault (IsHaltOn B P) → IsRecorded plan fault complete before after why → IsLateOn B P why
recorded_late B P plan fault complete before after why late (stopped e same) = halt_late B P why (subst (λ (x : Option PoolFault). IfSome x (IsHaltOn B P)) e late)
recorded_late B P plan fault complete before after why late (fewer none less same) = unfinished_late B P (record_answer before plan.session)
recorded_late B P plan fault complete before after why late (refused none whole answer same) = tt

-- a property of the report and of `Memory` holds for the outcome
told_of : (X : Result Report PoolFault → Type 0) (report : Report) (outcome : Result Report PoolFault) → UnlessMemory (Ok report) outcome → X (Ok report) → X (Err faults.Memory) → X outcome
told_of X report outcome told ok memory = elim told [
  | inl is ↦ subst X (sym is) ok
  | inr is ↦ subst X (sym is) memory
]

module _ {F : Type 0} (refuses : F → Document → Bool) (may_fill : Type 0) (may_stop : Place → Type 0) (source : PeerValue) (begun : F × PeerValue) (plan : Plan) (counts : List ℕ) (source' now : PeerValue) where
  -- the entry is stored, and a reported halt is allowed by the gate
  pub run_late : (outcome : Result Report PoolFault) → EndsRun refuses may_fill may_stop plan source begun counts source' now outcome → IfErr outcome (IsLateOn may_fill may_stop) × PutsEntry source now source' plan outcome
  run_late outcome e = go outcome e.ends
    where
      go : (o : Result Report PoolFault) → ClosesRun plan e.fault e.complete source e.before source' now o → IfErr o (IsLateOn may_fill may_stop) × PutsEntry source now source' plan o
      go o (concluded c told put) = (told_of (λ r. IfErr r (IsLateOn may_fill may_stop)) _ o told tt tt, put)
      go o (recorded r put) = (recorded_late may_fill may_stop plan e.fault e.complete e.before now _ e.late r, put)

  -- an unfinished run returns what is recorded
  pub run_tells : (outcome : Result Report PoolFault) → EndsRun refuses may_fill may_stop plan source begun counts source' now outcome → IfErr outcome (TellsLowWater now plan.session)
  run_tells outcome e = go outcome e.ends
    where
      go : (o : Result Report PoolFault) → ClosesRun plan e.fault e.complete source e.before source' now o → IfErr o (TellsLowWater now plan.session)
      go o (concluded c told put) = told_of (λ r. IfErr r (TellsLowWater now plan.session)) _ o told tt tt
      go o (recorded r put) = recorded_tells may_fill may_stop plan e.fault e.complete e.before now _ e.late r

  -- on Ok, the session is concluded, so the selected feed above its start is covered, although it is not scanned again
  pub run_well : (target : PeerValue) → LawfulDatabase source.db → LawfulSessions (refuses begun.0) begun.1 → begins_answer source target plan ≡ Ok tt → begun.1 ≡ after_begins source target plan → (outcome : Result Report PoolFault)
      → EndsRun refuses may_fill may_stop plan source begun counts source' now outcome → IfOk outcome (EndsWell source target now plan (sum counts))
  run_well target law l ok is outcome e = go outcome e.ends
    where
      since : IsGrown (refuses begun.0) source.db plan.chosen plan.session (after_begins source target plan) e.before
      since = subst (λ p. IsGrown (refuses begun.0) source.db plan.chosen plan.session p e.before) is e.grown

      well : (report : Report) → IsConcluded plan e.fault e.complete e.before now report → EndsWell source target now plan (sum counts) report
      well report c = ends_well (refuses begun.0) source target plan e.before now report (sum counts) law (subst (LawfulSessions (refuses begun.0)) is l) ok since (e.read c.free c.whole) c.answer c.peer

      go : (o : Result Report PoolFault) → ClosesRun plan e.fault e.complete source e.before source' now o → IfOk o (EndsWell source target now plan (sum counts))
      go o (concluded c told put) = told_of (λ r. IfOk r (EndsWell source target now plan (sum counts))) _ o told (well _ c) tt
      go o (recorded r put) = tt

ok_of : {A E : Type 0} (r : Result A E) (X : Type 0) → X → IfOk r (λ _. X)
ok_of (Ok a) X x = x
ok_of (Err e) X x = tt

-- on Ok, nothing was stopped and everything was received
pub ends_free : (plan : Plan) (fault : Option PoolFault) (complete : Bool) (source before source' after : PeerValue) (outcome : Result Report PoolFault) (X : Type 0)
    → ClosesRun plan fault complete source before source' after outcome → (fault ≡ None → complete ≡ true → X) → IfOk outcome (λ _. X)
ends_free plan fault complete source before source' after outcome X (concluded c told put) f = ok_of outcome X (f c.free c.whole)
ends_free plan fault complete source before source' after outcome X (recorded r put) f = tt

-- what was shown is what the report says
pub shown_well : (board : Option Board) (given now : List BoardSeat) (source target target' : PeerValue) (plan : Plan) (n : ℕ) (outcome : Result Report PoolFault)
    → IfOk outcome (λ _. HaveShown board n None given now) → IfOk outcome (EndsWell source target target' plan n) → IfOk outcome (λ report. HaveShown board report.counts.read None given now)
shown_well board given now source target target' plan n (Ok report) h w = subst (λ m. HaveShown board m None given now) w.sum h
shown_well board given now source target target' plan n (Err why) h w = tt

-- the source's complete selected feed is covered, if the two were tied
whole_of : (refuses : Document → Bool) (source target target' : PeerValue) (plan : Plan) (n : ℕ) → LawfulDatabase source.db → LawfulSessions refuses target → LawfulSessions refuses target' → begins_answer source target plan ≡ Ok tt
    → IsGrown refuses source.db plan.chosen plan.session (after_begins source target plan) target' → (outcome : Result Report PoolFault) → IfOk outcome (EndsWell source target target' plan n)
    → IfOk outcome (λ _. IsTiedPair source target plan.chosen → CoversFeed source target' plan.chosen source.db.update_seq)
whole_of refuses source target target' plan n law l l' ok grown (Ok report) w = λ tied. reported_whole refuses source target plan target' report law l l' ok grown tied w.reported
whole_of refuses source target target' plan n law l l' ok grown (Err why) w = tt

-- ---- the guarantees

-- no worker was started, because an allocation failed
pub no_workers : {F : Type 0} (refuses : F → Document → Bool) (may_fill : Type 0) (may_stop : Place → Type 0) (plan : Plan) (source : PeerValue) (given : F × PeerValue) (counts : List ℕ) (source' after : PeerValue) (outcome : Result Report PoolFault) (fault : PoolFault) → fault ≡ faults.Memory
    → HasNoWindows plan.session given.1.sessions → ClosesRun plan (Some fault) false source given.1 source' after outcome → EndsRun refuses may_fill may_stop plan source given counts source' after outcome
no_workers refuses may_fill may_stop plan source given counts source' after outcome fault is fresh e = record {
  fault = Some fault;
  complete = false;
  before = given.1;
  grown = grown-same (refuses given.0) source.db plan.chosen plan.session given.1;
  more = plan.stop_after;
  paged = starts_pages source.db plan plan.session given.1.sessions fresh;
  late = subst (IsHaltOn may_fill may_stop) (sym is) tt;
  read = λ none whole. absurd (false≢true whole);
  ends = e;
}

-- no worker was needed, because there was nothing to read
pub nothing_read : {F : Type 0} (refuses : F → Document → Bool) (may_fill : Type 0) (may_stop : Place → Type 0) (plan : Plan) (source : PeerValue) (given : F × PeerValue) (counts : List ℕ) (source' after : PeerValue) (outcome : Result Report PoolFault)
    → read_in given.1.sessions plan.session ≡ 0 → counts ≡ [] → HasNoWindows plan.session given.1.sessions → ClosesRun plan None true source given.1 source' after outcome → EndsRun refuses may_fill may_stop plan source given counts source' after outcome
nothing_read refuses may_fill may_stop plan source given counts source' after outcome none empty fresh e = record {
  fault = None;
  complete = true;
  before = given.1;
  grown = grown-same (refuses given.0) source.db plan.chosen plan.session given.1;
  more = plan.stop_after;
  paged = starts_pages source.db plan plan.session given.1.sessions fresh;
  late = tt;
  read = λ _ _. none ∙ ap sum (sym empty);
  ends = e;
}

module _ {F : Type 0} (refuses : F → Document → Bool) (may_fill : Type 0) (may_stop : Place → Type 0) (plan : Plan) (source target : F × PeerValue) where
  -- an early error
  pub runs_early : (fetched : List ℕ) (why : PoolFault) → LawfulSessions (refuses target.0) target.1 → early_answer source.1 target.1 plan ≡ Err why → fetched ≡ [] → RunsOn refuses may_fill may_stop plan source target source target fetched (Err why)
  runs_early fetched why lawful early none = record {
    early = subst (λ r. EarlyOrLate may_fill may_stop r source target source target fetched (Err why)) (sym early) (refl, refl, refl, none);
    filter = refl;
    log = refl;
    grown = (refl, inl refl);
    later = IsLaterPeer-same target.1;
    tied = λ _ _ tied. tied;
    others = others_same source.1 target.1;
    audited = λ chosen. tied_none (refuses target.0) source.1 target.1 chosen lawful;
    put = inl (refl, refl, record { fault = why; told = refl; due = inl early });
    expected = λ tied. early_expected may_fill may_stop source.1 target.1 plan why early;
    well = tt;
    whole = tt;
  }

  -- the session has not begun
  pub runs_refused : (fetched : List ℕ) (why : TargetFault) (target' : F × PeerValue) → LawfulSessions (refuses target.0) target.1 → early_answer source.1 target.1 plan ≡ Ok tt → (why ≡ refusals.Memory) ⊎ (begins_answer source.1 target.1 plan ≡ Err why) → target'.0 ≡ target.0 → target'.1 ≡ target.1
      → RunsOn refuses may_fill may_stop plan source target source target' fetched (Err (faults.Refused why))
  runs_refused fetched why target' lawful early due filter peer =
      let same : target' ≡ target = λ i. (filter i, peer i) in
      subst (λ t. RunsOn refuses may_fill may_stop plan source target source t fetched (Err (faults.Refused why))) (sym same)
      (record {
        early = subst (λ r. EarlyOrLate may_fill may_stop r source target source target fetched (Err (faults.Refused why))) (sym early) tt;
        filter = refl;
        log = refl;
        grown = (refl, inl refl);
        later = IsLaterPeer-same target.1;
        tied = λ _ _ tied. tied;
        others = others_same source.1 target.1;
        audited = λ chosen. tied_none (refuses target.0) source.1 target.1 chosen lawful;
        put = inl (
          refl,
          refl,
          record {
            fault = faults.Refused why;
            told = refl;
            due = inr (elim due [ inl none ↦ inl (ap faults.Refused none) | inr begins ↦ inr (why, begins, refl) ]);
          },
        );
        expected = λ tied. begin_expected may_fill may_stop source.1 target.1 plan (refuses target.0) why lawful tied due;
        well = tt;
        whole = tt;
      })

  -- the workers were to be started
  pub runs_begun : (begun : F × PeerValue) (counts : List ℕ) (source' target' : F × PeerValue) (outcome : Result Report PoolFault) → early_answer source.1 target.1 plan ≡ Ok tt
      → LawfulDatabase source.1.db → LawfulSessions (refuses target.0) target.1 → LawfulSessions (refuses begun.0) begun.1 → begins_answer source.1 target.1 plan ≡ Ok tt → begun.0 ≡ target.0 → begun.1 ≡ after_begins source.1 target.1 plan
      → source'.0 ≡ source.0 → source'.1 ≡ record source.1 { outgoing = source'.1.outgoing } → GrownPeer refuses source.1.db plan.chosen plan.session begun target' → EndsRun refuses may_fill may_stop plan source.1 begun counts source'.1 target'.1 outcome
      → RunsOn refuses may_fill may_stop plan source target source' target' counts outcome
  runs_begun begun counts source' target' outcome early law lawful lawful_begun ok same is filter log more e =
      let since : IsGrown (refuses target.0) source.1.db plan.chosen plan.session (after_begins source.1 target.1 plan) target'.1 =
      subst (λ f. IsGrown (refuses f) source.1.db plan.chosen plan.session (after_begins source.1 target.1 plan) target'.1) same (subst (λ p. IsGrown (refuses begun.0) source.1.db plan.chosen plan.session p target'.1) is more.1) in
      let left : IsLeft (refuses target.0) source.1 target.1 plan target'.1 = inr (ok, since) in
      let l' : LawfulSessions (refuses target.0) target'.1 = (left_law (refuses target.0) source.1 target.1 plan target'.1 law lawful left).0 in
      let late = run_late refuses may_fill may_stop source.1 begun plan counts source'.1 target'.1 outcome e in
      let same_db = ap (λ (q : PeerValue). q.db) log in
      let put = puts_over source.1 target'.1 plan late.1.entry late.1.put source'.1 late.1.told late.1.puts in
      let tied = both_tied (refuses target.0) source.1 target.1 plan source'.1 target'.1 law lawful left put same_db in
      let well = run_well refuses may_fill may_stop source.1 begun plan counts source'.1 target'.1 target.1 law lawful_begun ok is outcome e in
      record {
        early = subst (λ r. EarlyOrLate may_fill may_stop r source target source' target' counts outcome) (sym early) late.0;
        filter = filter;
        log = log;
        grown = (more.0 ∙ same, left);
        later = (left_law (refuses target.0) source.1 target.1 plan target'.1 law lawful left).1;
        tied = tied;
        others = others_tied (refuses target.0) source.1 target.1 plan source'.1 target'.1 law lawful log put left;
        audited = tied_clean (refuses target.0) source.1 target.1 source'.1 target'.1 l' tied;
        put = inr (record {
          begun = ok;
          paged = is_paged (refuses target.0) source.1 target.1 plan target'.1 e.more law (subst (λ f. LawfulSessions (refuses f) (after_begins source.1 target.1 plan)) same (subst (LawfulSessions (refuses begun.0)) is lawful_begun)) ok since l'
              (closes_pages source.1.db plan e.more e.fault e.complete source.1 e.before source'.1 target'.1 outcome e.paged e.ends);
          put = late.1;
          unfinished = run_tells refuses may_fill may_stop source.1 begun plan counts source'.1 target'.1 outcome e;
        });
        expected = run_expected may_fill may_stop source.1 target.1 plan refuses begun counts source'.1 target'.1 outcome law lawful_begun ok is e;
        well = well;
        whole = whole_of (refuses target.0) source.1 target.1 target'.1 plan (sum counts) law lawful l' ok since outcome well;
      }

-- ---- a plan without an early error

pub record Passes (plan : Plan) : Type 0 where
  pub some : 0 < plan.workers
  pub most : plan.workers ≤ 64
  pub batch : is_batch plan.batch ≡ true

pub passes : (source target : PeerValue) (plan : Plan) → early_answer source target plan ≡ Ok tt → Passes plan
passes source target plan h =
    let rest = cond (is_batch plan.batch) (cond (source.db.uuid == target.db.uuid) (Err faults.SamePeer) (Ok tt)) (Err faults.BadBatch) in
    let Asks : Result (Unit {0}) PoolFault → Type 0 = λ r. r ≡ Ok tt → Passes plan in
    cond_both (plan.workers == 0) (Err faults.NoWorkers) (cond (nat_lt 64 plan.workers) (Err faults.TooManyWorkers) rest) Asks
    (λ _ k. absurd (false≢true (ap is_ok k)))
    (λ none. cond_both (nat_lt 64 plan.workers) (Err faults.TooManyWorkers) rest Asks
    (λ _ k. absurd (false≢true (ap is_ok k)))
    (λ few. cond_both (is_batch plan.batch) (cond (source.db.uuid == target.db.uuid) (Err faults.SamePeer) (Ok tt)) (Err faults.BadBatch) Asks
    (λ batch _. record { some = grind (arith, nat_tests, none); most = grind (arith, nat_tests, few); batch = batch })
    (λ _ k. absurd (false≢true (ap is_ok k)))))
    h
