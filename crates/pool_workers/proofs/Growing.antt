-- Each call keeps the invariant of the target behind the lock.
use Rattle.proof_prelude.proofs.{◌≡◌, ℕ, ◌+◌, ◌≤◌, Bool, Option, Some, Result, Ok, Err, length, refl, sym, ap, ◌∙◌, subst, arith}
use Rattle.rev_tree.specs.{SessionId}
use Rattle.doc_json.specs.Document.{Document}
use Rattle.couch_base.specs.{DatabaseValue, WindowValue, ParcelValue}
use Rattle.repl_peer.specs.{Scope, Settled, TargetFault, PeerValue, SessionValue, session_in, on_session, on_found, append_in, with_window, recorded_at, LawfulSessions, settle_check, SettlesAt, Settles, SettleGives, GivesUnlessMemory, append_answer, after_append, after_record, read_in, taken}
use Rattle.repl_peer.specs.declared.fault.TargetFault.TheVariants as refusals
use Rattle.repl_target.specs.{Plan, Call, Append, Record, IsFrom, after_call}
use Rattle.repl_target.proofs.{found-is, grown-same, grown-later, grown-one, settled_grown, append_reads, record_reads, settle_reads, swap_some}
use Rattle.pool_workers.specs.{IsAnswerOf, HasRun, TargetKeeps, IsNext, IsOneLess, KeepsPages, HasNoWindows}
use Rattle.pool_workers.proofs.Paging.{next_page, starts_pages, pages_record, pages_settle, pages_append}
use Rattle.repl_peer.proofs.{before-le, ends_law, session_found, settle_ends}

-- ---- the run's session

module _ (source : DatabaseValue) (id : SessionId) where
  -- a change that keeps id and scope
  run_changed : (p : PeerValue) (change : SessionValue → SessionValue) → ((s : SessionValue) → ((change s).id ≡ s.id) × ((change s).scope ≡ s.scope)) → HasRun source id p.sessions → HasRun source id (on_session p id change).sessions
  run_changed p change keeps h =
      let s = h.0 in
      let held = session_found p.sessions id s h.1 in
      let k = keeps s in (
        change s,
        ap (λ o. session_in (on_found p change o).sessions id) h.1 ∙ swap_some id s (change s) p.sessions (ap (λ (i : SessionId). i.0) k.0 ∙ held.1) h.1,
        ap (λ (c : Scope). c.life) k.1 ∙ h.2,
        ap (λ (c : Scope). c.goal) k.1 ∙ h.3,
      )

  pub run_append : (p : PeerValue) (w : WindowValue) (q : PeerValue) → q ≡ after_append p id w → HasRun source id p.sessions → HasRun source id q.sessions
  run_append p w q is h = subst (λ (x : PeerValue). HasRun source id x.sessions) (sym is) (run_changed p (λ s. with_window w s (append_in w s)) (λ s. kept s (append_in w s)) h)
    where
      kept : (s : SessionValue) (r : Result (Unit {0}) TargetFault) → ((with_window w s r).id ≡ s.id) × ((with_window w s r).scope ≡ s.scope)
      kept s (Ok done) = (refl, refl)
      kept s (Err fault) = (refl, refl)

  pub run_record : (p : PeerValue) (at : ℕ) (q : PeerValue) → q ≡ after_record p id at → HasRun source id p.sessions → HasRun source id q.sessions
  run_record p at q is h = subst (λ (x : PeerValue). HasRun source id x.sessions) (sym is) (run_changed p (recorded_at at) (λ s. (refl, refl)) h)

  pub run_settle : (refuses : Document → Bool) (p : PeerValue) (parcel : ParcelValue) (result : Result Settled TargetFault) (q : PeerValue) → LawfulSessions refuses p → SettleGives refuses p id parcel result q → HasRun source id p.sessions → HasRun source id q.sessions
  run_settle refuses p parcel result q law gives h =
      let s = h.0 in
      let later = ends_law refuses p id law parcel q (settle_ends refuses p id parcel result q gives) in
      let held = session_found p.sessions id s h.1 in
      let k = later.1.sessions s held.0 in (
        k.0,
        found-is q.sessions id k.0 later.0.distinct k.1 (k.2.id ∙ (λ i. record { 0 = held.1 i })),
        ap (λ (c : Scope). c.life) k.2.scope ∙ h.2,
        ap (λ (c : Scope). c.goal) k.2.scope ∙ h.3,
      )

module _ {F : Type 0} (refuses : F → Document → Bool) (source : DatabaseValue) (plan : Plan) where
  pub starts : (given : F × PeerValue) (session : SessionId) → read_in given.1.sessions session ≡ 0 → HasNoWindows session given.1.sessions → HasRun source session given.1.sessions → TargetKeeps refuses source plan (Some (given, session)) session 0 plan.stop_after given
  starts given session none fresh run = (given, refl, (refl, grown-same (refuses given.0) source plan.chosen session given.1), none, starts_pages source plan session given.1.sessions fresh, run)

  -- a call that reads nothing
  pub grows : (given : Option ((F × PeerValue) × SessionId)) (session : SessionId) (total : ℕ) (more left : Option ℕ) (now next : F × PeerValue) (c : Call) → TargetKeeps refuses source plan given session total more now → next.0 ≡ now.0 → IsFrom source plan.chosen session c
      → read_in (after_call (refuses now.0) now.1 c).sessions session ≡ read_in now.1.sessions session → next.1 ≡ after_call (refuses now.0) now.1 c → KeepsPages source plan session left next.1.sessions → HasRun source session next.1.sessions → TargetKeeps refuses source plan given session total left next
  grows given session total more left now next c h same from reads is pages run =
      let g = h.0 in
      let grown = h.2 in
      let is2 : next.1 ≡ after_call (refuses g.0) now.1 c = is ∙ ap (λ f. after_call (refuses f) now.1 c) grown.0 in (
        g,
        h.1,
        (same ∙ grown.0, grown-later (refuses g.0) source plan.chosen session g.1 now.1 next.1 grown.1 (grown-one (refuses g.0) source plan.chosen session now.1 next.1 c from is2)),
        ap (λ (q : PeerValue). read_in q.sessions session) is ∙ reads ∙ h.3,
        pages,
        run,
      )

  -- a page is stored
  pub appends : (given : Option ((F × PeerValue) × SessionId)) (session : SessionId) (total : ℕ) (more less : Option ℕ) (now next : F × PeerValue) (w : WindowValue) (done : Unit {0}) → TargetKeeps refuses source plan given session total more now → next.0 ≡ now.0
      → IsNext source plan w → IsOneLess more less → GivesUnlessMemory (Ok done) (append_answer now.1 session w) → next.1 ≡ after_append now.1 session w → TargetKeeps refuses source plan given session total less next
  appends given session total more less now next w done h same from one gives is =
      grows given session total more less now next (Append session w) h same (refl, next_page source plan w from) (append_reads now.1 session w) is
      (pages_append source plan session more less now.1 w next.1 done from one gives is h.4) (run_append source session now.1 w next.1 is h.5)

  -- a page is not stored
  pub stays : (given : Option ((F × PeerValue) × SessionId)) (session : SessionId) (total : ℕ) (more : Option ℕ) (now next : F × PeerValue) → TargetKeeps refuses source plan given session total more now → next.0 ≡ now.0 → next.1 ≡ now.1 → TargetKeeps refuses source plan given session total more next
  stays given session total more now next h same is = subst (TargetKeeps refuses source plan given session total more) (λ i. (sym same i, sym is i)) h

  -- a recording
  pub records : (given : Option ((F × PeerValue) × SessionId)) (session : SessionId) (total : ℕ) (more : Option ℕ) (now next : F × PeerValue) (at : ℕ) → TargetKeeps refuses source plan given session total more now → next.0 ≡ now.0
      → next.1 ≡ after_record now.1 session at → TargetKeeps refuses source plan given session total more next
  records given session total more now next at h same is =
      grows given session total more more now next (Record session at) h same refl (record_reads now.1 session at) is (pages_record source plan session more now.1 at next.1 is h.4) (run_record source session now.1 at next.1 is h.5)

  -- a settling, however it ends
  pub settles : (given : Option ((F × PeerValue) × SessionId)) (session : SessionId) (total : ℕ) (more : Option ℕ) (now next : F × PeerValue) (parcel : ParcelValue) (result : Result Settled TargetFault) → LawfulSessions (refuses now.0) now.1
      → TargetKeeps refuses source plan given session total more now → next.0 ≡ now.0 → IsAnswerOf source parcel → SettleGives (refuses now.0) now.1 session parcel result next.1 → (sum : ℕ) → sum ≡ total + taken result (length parcel.docs)
      → TargetKeeps refuses source plan given session sum more next
  settles given session total more now next parcel result law h same from gives sum is =
      let g = h.0 in
      let grown = h.2 in
      let gives2 = subst (λ f. SettleGives (refuses f) now.1 session parcel result next.1) grown.0 gives in
      let reads = settle_reads (refuses now.0) now.1 session law parcel result next.1 gives in
      let was = h.3 in
      let total_is : read_in next.1.sessions session ≡ sum = omega (arith, reads, was, is) in (
        g,
        h.1,
        (same ∙ grown.0, grown-later (refuses g.0) source plan.chosen session g.1 now.1 next.1 grown.1 (settled_grown (refuses g.0) source plan.chosen session now.1 next.1 parcel result from gives2)),
        total_is,
        pages_settle source plan session more (refuses now.0) now.1 parcel result next.1 gives h.4,
        run_settle source session (refuses now.0) now.1 parcel result next.1 law gives h.5,
      )

-- ---- no more documents are consumed than a parcel has

module _ (refuses : Document → Bool) (p : PeerValue) (id : SessionId) (parcel : ParcelValue) (q : PeerValue) where
  at_most : (s : SessionValue) (w : WindowValue) (result : Result Settled TargetFault) → SettlesAt refuses p parcel s w result q → taken result (length parcel.docs) ≤ length parcel.docs
  at_most s w (Ok settled) h = omega arith
  at_most s w (Err (refusals.Uncovered seq uncovered rev)) h = omega arith
  at_most s w (Err (refusals.Stopped n rest cause)) h = omega (arith, h.0.within, before-le refuses w (record { db = p.db; session = s }) parcel.docs)
  at_most s w (Err fault) h = absurd h

  pub taken_most : (result : Result Settled TargetFault) → LawfulSessions refuses p → SettleGives refuses p id parcel result q → taken result (length parcel.docs) ≤ length parcel.docs
  taken_most result law gives = go (settle_check p id parcel) gives
    where
      go : (r : Result (SessionValue × WindowValue) TargetFault) → Settles refuses p parcel r result q → taken result (length parcel.docs) ≤ length parcel.docs
      go (Err fault) h =
          let reads = settle_reads refuses p id law parcel result q gives in
          let same : read_in q.sessions id ≡ read_in p.sessions id = ap (λ (x : PeerValue). read_in x.sessions id) h.1 in
          omega (arith, reads, same)
      go (Ok at) h = at_most at.0 at.1 result h
