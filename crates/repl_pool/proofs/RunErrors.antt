-- The errors of a run between tied peers.
use Rattle.proof_prelude.proofs.{◌≡◌, ◌⊎◌, ℕ, ◌==◌, nat_lt, Bool, true, cond, List, Option, Some, Result, Ok, Err, is_ok, IfErr, IfSome, refl, sym, ap, ◌∙◌, subst, inl, inr, cond_both, true≢false}
use Rattle.doc_json.specs.Document.{Document}
use Rattle.couch_base.specs.{LawfulDatabase}
use Rattle.range_front.specs.{low_water}
use Rattle.repl_peer.specs.{Report, TargetFault, PeerValue, SessionValue, session_in, LawfulSessions, found_answer, report_of, conclude_in, conclude_answer, record_answer}
use Rattle.repl_peer.specs.declared.fault.TargetFault.TheVariants as refusals
use Rattle.repl_target.specs.{Plan, IsTiedPair, is_batch, begins_answer, after_begins}
use Rattle.repl_target.proofs.{begins_refused}
use Rattle.pool_workers.specs.{IsHaltOn, Place, PoolFault}
use Rattle.pool_workers.specs.declared.fault.PoolFault.TheVariants as faults
use Rattle.repl_pool.specs.{early_answer, unfinished_at, IsExpectedRun, IsRecorded, stopped, fewer, refused, ClosesRun, concluded, recorded, EndsRun}
use Rattle.repl_pool.proofs.Ending.{begun_held, held_grown}

why_is : {A E : Type 0} (x y : E) → ◌≡◌ {A = Result A E} (Err x) (Err y) → x ≡ y
why_is x y e = cc

no_err : {A E : Type 0} (x : A) (why : E) → ◌≡◌ {A = Result A E} (Ok x) (Err why) → ⊥
no_err x why e = true≢false (ap is_ok e)

module _ (may_fill : Type 0) (may_stop : Place → Type 0) (source target : PeerValue) (plan : Plan) where
  abbrev Expected : PoolFault → Type 0
  Expected why = IsExpectedRun may_fill may_stop source target plan why

  -- an early error
  pub early_expected : (why : PoolFault) → early_answer source target plan ≡ Err why → Expected why
  early_expected why h =
      let same : Result (Unit {0}) PoolFault = cond (source.db.uuid == target.db.uuid) (Err faults.SamePeer) (Ok tt) in
      let batch : Result (Unit {0}) PoolFault = cond (is_batch plan.batch) same (Err faults.BadBatch) in
      let many : Result (Unit {0}) PoolFault = cond (nat_lt 64 plan.workers) (Err faults.TooManyWorkers) batch in
      let X : Result (Unit {0}) PoolFault → Type 0 = λ r. r ≡ Err why → Expected why in
      cond_both (plan.workers == 0) (Err faults.NoWorkers) many X
      (λ _ k. subst Expected (why_is faults.NoWorkers why k) (h ∙ sym k))
      (λ _. cond_both (nat_lt 64 plan.workers) (Err faults.TooManyWorkers) batch X
      (λ _ k. subst Expected (why_is faults.TooManyWorkers why k) (h ∙ sym k))
      (λ _. cond_both (is_batch plan.batch) same (Err faults.BadBatch) X
      (λ _. cond_both (source.db.uuid == target.db.uuid) (Err faults.SamePeer) (Ok tt) X
      (λ _ k. subst Expected (why_is faults.SamePeer why k) (h ∙ sym k))
      (λ _ k. absurd (no_err tt why k)))
      (λ _ k. subst Expected (why_is faults.BadBatch why k) (h ∙ sym k))))
      h

  -- the session has not begun
  pub begin_expected : (refuses : Document → Bool) (why : TargetFault) → LawfulSessions refuses target → IsTiedPair source target plan.chosen → (why ≡ refusals.Memory) ⊎ (begins_answer source target plan ≡ Err why) → Expected (faults.Refused why)
  begin_expected refuses why law tied due = elim due [
    | inl none ↦ subst (λ w. Expected (faults.Refused w)) (sym none) tt
    | inr begins ↦ (let k = begins_refused refuses source target plan why law tied begins in subst (λ w. Expected (faults.Refused w)) (sym k.0) k.1)
  ]

  -- ---- the end of a run whose session has begun

  halt_expected : (fault : PoolFault) → IsHaltOn may_fill may_stop fault → Expected fault
  halt_expected faults.NoWorkers h = absurd h
  halt_expected faults.TooManyWorkers h = absurd h
  halt_expected faults.BadBatch h = absurd h
  halt_expected faults.SamePeer h = absurd h
  halt_expected (faults.Refused refusals.SessionExists) h = absurd h
  halt_expected (faults.Refused (refusals.Unfinished low_water)) h = tt
  halt_expected (faults.Refused why) h = h
  halt_expected fault h = h

  record_expected : (p : PeerValue) (s : SessionValue) → session_in p.sessions plan.session ≡ Some s → Expected (unfinished_at (record_answer p plan.session))
  record_expected p s is = subst (λ o. Expected (unfinished_at (found_answer (λ (s : SessionValue). Ok (low_water s.front)) o))) (sym is) tt

  conclude_expected : (p : PeerValue) (s : SessionValue) → session_in p.sessions plan.session ≡ Some s → (why : TargetFault) → conclude_answer p plan.session ≡ Err why → Expected (faults.Refused why)
  conclude_expected p s is why h =
      cond_both (low_water s.front == s.goal) (Ok (report_of (record s { recorded = low_water s.front }))) (Err (refusals.Unfinished (low_water s.front))) (λ (r : Result Report TargetFault). r ≡ Err why → Expected (faults.Refused why))
      (λ _ k. absurd (no_err _ why k))
      (λ _ k. subst (λ w. Expected (faults.Refused w)) (why_is (refusals.Unfinished (low_water s.front)) why k) tt)
      (sym (ap (found_answer conclude_in) is) ∙ h)

  recorded_expected : (fault : Option PoolFault) (complete : Bool) (before after : PeerValue) (why : PoolFault) (s : SessionValue) → session_in before.sessions plan.session ≡ Some s → IfSome fault (IsHaltOn may_fill may_stop) → IsRecorded plan fault complete before after why → Expected why
  recorded_expected fault complete before after why s is late (stopped e same) = halt_expected why (subst (λ (x : Option PoolFault). IfSome x (IsHaltOn may_fill may_stop)) e late)
  recorded_expected fault complete before after why s is late (fewer none less same) = record_expected before s is
  recorded_expected fault complete before after why s is late (refused none whole answer same) = conclude_expected before s is _ answer

  closed_expected : (fault : Option PoolFault) (complete : Bool) (before source' after : PeerValue) (outcome : Result Report PoolFault) (s : SessionValue) → session_in before.sessions plan.session ≡ Some s → IfSome fault (IsHaltOn may_fill may_stop)
      → ClosesRun plan fault complete source before source' after outcome → IfErr outcome Expected
  closed_expected fault complete before source' after outcome s is late (concluded c told put) = elim told [
    | inl ok ↦ subst (λ (r : Result Report PoolFault). IfErr r Expected) (sym ok) tt
    | inr memory ↦ subst (λ (r : Result Report PoolFault). IfErr r Expected) (sym memory) tt
  ]
  closed_expected fault complete before source' after outcome s is late (recorded r put) = recorded_expected fault complete before after _ s is late r

  pub run_expected : {F : Type 0} (refuses : F → Document → Bool) (begun : F × PeerValue) (counts : List ℕ) (source' now : PeerValue) (outcome : Result Report PoolFault) → LawfulDatabase source.db → LawfulSessions (refuses begun.0) begun.1 → begins_answer source target plan ≡ Ok tt
      → begun.1 ≡ after_begins source target plan → EndsRun refuses may_fill may_stop plan source begun counts source' now outcome → IfErr outcome (λ why. IsTiedPair source target plan.chosen → Expected why)
  run_expected refuses begun counts source' now outcome law l ok is e =
      let held = held_grown refuses source.db plan.chosen begun (begun.0, e.before) plan.session law l (refl, e.grown) (begun_held source target plan begun.1 ok is) in
      weaker outcome (closed_expected e.fault e.complete e.before source' now outcome held.0 held.1 e.late e.ends)
    where
      weaker : (r : Result Report PoolFault) → IfErr r Expected → IfErr r (λ why. IsTiedPair source target plan.chosen → Expected why)
      weaker (Ok report) h = tt
      weaker (Err why) h = λ tied. h
