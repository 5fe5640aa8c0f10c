-- An unfinished run returns the low water of its session, which is recorded.
use Rattle.proof_prelude.proofs.{◌≡◌, ℕ, ◌==◌, Bool, cond, Option, Some, None, Result, Ok, Err, is_ok, IfSome, refl, sym, ap, ◌∙◌, subst, cond_both, cond-false, false≢true}
use Rattle.rev_tree.specs.{SessionId}
use Rattle.range_front.specs.{low_water}
use Rattle.repl_peer.specs.{Report, TargetFault, PeerValue, SessionValue, session_in, with_session, found_answer, on_found, recorded_at, record_answer, after_record, report_of, conclude_in, conclude_answer, after_conclude}
use Rattle.repl_peer.specs.declared.fault.TargetFault.TheVariants as refusals
use Rattle.repl_target.specs.{Plan, closed, closed_as}
use Rattle.repl_peer.proofs.{session_found}
use Rattle.repl_target.proofs.{swap_some}
use Rattle.pool_workers.specs.{IsHaltOn, Place, PoolFault}
use Rattle.repl_pool.specs.{unfinished_at, IsRecorded, stopped, fewer, refused, TellsLowWater}
use Rattle.pool_workers.specs.declared.fault.PoolFault.TheVariants as faults

-- a worker's halt returns no low water
halt_tells : (B : Type 0) (P : Place → Type 0) (p : PeerValue) (id : SessionId) (fault : PoolFault) → IsHaltOn B P fault → TellsLowWater p id fault
halt_tells B P p id (faults.Refused (refusals.Unfinished n)) h = absurd h
halt_tells B P p id fault h = tt

-- the session after recording
recorded_in : (p : PeerValue) (id : SessionId) (at : ℕ) (s : SessionValue) (now : PeerValue) → session_in p.sessions id ≡ Some s → now ≡ after_record p id at → session_in now.sessions id ≡ Some (recorded_at at s)
recorded_in p id at s now e after =
    let is : now ≡ record p { sessions = with_session p.sessions (recorded_at at s) } = after ∙ ap (on_found p (recorded_at at)) e in
    ap (λ (q : PeerValue). session_in q.sessions id) is ∙ swap_some id s (recorded_at at s) p.sessions (session_found p.sessions id s e).1 e

-- a recorded session
record_tells : (p : PeerValue) (id : SessionId) (at : ℕ) (now : PeerValue) → now ≡ after_record p id at → TellsLowWater now id (unfinished_at (record_answer p id))
record_tells p id at now after = go (session_in p.sessions id) refl
  where
    go : (o : Option SessionValue) → session_in p.sessions id ≡ o → TellsLowWater now id (unfinished_at (found_answer (λ (s : SessionValue). Ok (low_water s.front)) o))
    go None e = tt
    go (Some s) e = (recorded_at at s, recorded_in p id at s now e after, refl, refl)

-- a session that cannot be concluded
close_tells : (p : PeerValue) (plan : Plan) (now : PeerValue) (why : TargetFault) → conclude_answer p plan.session ≡ Err why → now ≡ closed p plan → TellsLowWater now plan.session (faults.Refused why)
close_tells p plan now why answer after = go (session_in p.sessions plan.session) refl answer
  where
    id : SessionId
    id = plan.session

    why_is : (x y : TargetFault) → ◌≡◌ {A = Result Report TargetFault} (Err x) (Err y) → x ≡ y
    why_is x y e = cc

    change : SessionValue → SessionValue
    change x = cond (low_water x.front == x.goal) (recorded_at plan.at x) x

    go : (o : Option SessionValue) → session_in p.sessions id ≡ o → found_answer conclude_in o ≡ Err why → TellsLowWater now id (faults.Refused why)
    go None e h = subst (λ w. TellsLowWater now id (faults.Refused w)) (why_is refusals.NoSuchSession why h) tt
    go (Some s) e h =
        cond_both (low_water s.front == s.goal) (Ok (report_of (record s { recorded = low_water s.front }))) (Err (refusals.Unfinished (low_water s.front))) (λ (r : Result Report TargetFault). r ≡ Err why → TellsLowWater now id (faults.Refused why))
        (λ _ k. absurd (false≢true (sym (ap is_ok k))))
        (λ no k.
        let stays : after_conclude p id plan.at ≡ record p { sessions = with_session p.sessions s } =
        ap (on_found p change) e ∙ ap (λ x. record p { sessions = with_session p.sessions x }) (cond-false (low_water s.front == s.goal) (recorded_at plan.at s) s no) in
        let held : session_in (after_conclude p id plan.at).sessions id ≡ Some s = ap (λ (q : PeerValue). session_in q.sessions id) stays ∙ swap_some id s s p.sessions (session_found p.sessions id s e).1 e in
        let is : now ≡ after_record (after_conclude p id plan.at) id plan.at = after ∙ ap (closed_as p plan) answer in
        subst (λ w. TellsLowWater now id (faults.Refused w)) (why_is (refusals.Unfinished (low_water s.front)) why k) (recorded_at plan.at s, recorded_in (after_conclude p id plan.at) id plan.at s now held is, refl, refl))
        h

-- a session that is recorded but not concluded
pub recorded_tells : (B : Type 0) (P : Place → Type 0) (plan : Plan) (fault : Option PoolFault) (complete : Bool) (before after : PeerValue) (why : PoolFault) → IfSome fault (IsHaltOn B P) → IsRecorded plan fault complete before after why → TellsLowWater after plan.session why
recorded_tells B P plan fault complete before after why late (stopped e same) = halt_tells B P after plan.session why (subst (λ (x : Option PoolFault). IfSome x (IsHaltOn B P)) e late)
recorded_tells B P plan fault complete before after why late (fewer none less same) = record_tells before plan.session plan.at after same
recorded_tells B P plan fault complete before after why late (refused none whole answer same) = close_tells before plan after _ answer same
