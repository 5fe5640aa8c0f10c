-- The errors of a worker's call on the target.
use Rattle.proof_prelude.proofs.{◌≡◌, ◌≤◌, ◌==◌, nat_lt, Bool, cond, Option, None, Some, Result, Ok, Err, IfErr, sym, ap, ◌∙◌, subst, arith, cond_both, cond-true, cond-false, eq-eqb, le-ltb, list_all}
use Rattle.rev_tree.specs.{SessionId}
use Rattle.doc_json.specs.Document.{Document}
use Rattle.couch_base.specs.{DatabaseValue, WindowValue, ParcelValue}
use Rattle.range_front.specs.{low_water, is_done, end_of}
use Rattle.repl_peer.specs.{PeerValue, SessionValue, GivesUnlessMemory, found_answer, next_in, append_in, append_answer, record_answer, has_row, has_room, window_in, settle_at, settle_check, SettlesAt, Settles, SettleGives, Settled, TargetFault}
use Rattle.repl_peer.specs.declared.fault.TargetFault.TheVariants as refusals
use Rattle.repl_target.specs.{Plan}
use Rattle.repl_target.proofs.{page_within}
use Rattle.pool_workers.specs.{IsStepFault, HasRun, IsNext}

abbrev IsStep : {A : Type 0} → Result A TargetFault → Type 0
IsStep r = IfErr r IsStepFault

-- ---- appending

-- the page is of the session's life, and ends at or below its goal
append_in_step : (source : DatabaseValue) (plan : Plan) (s : SessionValue) (w : WindowValue) → s.life ≡ source.life → s.goal ≡ source.update_seq → IsNext source plan w → IsStep (append_in w s)
append_in_step source plan s w life goal next =
    let same : w.life ≡ s.life = ap (λ (v : WindowValue). v.life) next.2 ∙ sym life in
    let end = ap (λ (v : WindowValue). v.hi) next.2 in
    let within : w.hi ≤ source.update_seq = subst (λ n. n ≤ source.update_seq) (sym end) (page_within source w.lo source.update_seq plan.batch plan.chosen (omega (arith, next.1))) in
    let past : Result (Unit {0}) TargetFault = cond (nat_lt s.goal w.hi) (Err refusals.PastGoal) (Ok tt) in
    let inside : past ≡ Ok tt = cond-false (nat_lt s.goal w.hi) (Err refusals.PastGoal) (Ok tt) (le-ltb s.goal w.hi (omega (arith, goal, within))) in
    subst IsStep (sym (cond-true (w.life == s.life) (next_in w s) (Err (refusals.OtherLife s.life)) (eq-eqb _ _ same)))
    (cond_both (w.lo == end_of s.front) past (Err (refusals.Gap (end_of s.front))) (λ (r : Result (Unit {0}) TargetFault). IsStep r) (λ _. subst IsStep (sym inside) tt) (λ _. tt))

gives_step : (r expected : Result (Unit {0}) TargetFault) → GivesUnlessMemory r expected → IsStep expected → IsStep r
gives_step (Ok done) expected h k = tt
gives_step (Err refusals.Memory) expected h k = tt
gives_step (Err fault) expected h k = subst IsStep (sym h) k

pub append_step : (source : DatabaseValue) (plan : Plan) (p : PeerValue) (id : SessionId) (w : WindowValue) → HasRun source id p.sessions → IsNext source plan w → (r : Result (Unit {0}) TargetFault) → GivesUnlessMemory r (append_answer p id w) → IfErr r IsStepFault
append_step source plan p id w run next r gives =
    gives_step r (append_answer p id w) gives (subst (λ o. IsStep (found_answer (append_in w) o)) (sym run.1) (append_in_step source plan run.0 w run.2 run.3 next))

-- ---- recording

pub record_step : (source : DatabaseValue) (p : PeerValue) (id : SessionId) → HasRun source id p.sessions → IfErr (record_answer p id) IsStepFault
record_step source p id run = subst (λ o. IsStep (found_answer (λ (s : SessionValue). Ok (low_water s.front)) o)) (sym run.1) tt

-- ---- settling

check_step : (s : SessionValue) (parcel : ParcelValue) (o : Option WindowValue) → IsStep (settle_at s parcel o)
check_step s parcel None = tt
check_step s parcel (Some w) =
    let room : Result (SessionValue × WindowValue) TargetFault = cond (has_room s w parcel) (Ok (s, w)) (Err refusals.CountFull) in
    cond_both (list_all (has_row w) parcel.docs) (cond (is_done s.front w.lo w.hi) (Err refusals.AlreadyDone) room) (Err refusals.ForeignParcel) IsStep
    (λ _. cond_both (is_done s.front w.lo w.hi) (Err refusals.AlreadyDone) room IsStep (λ _. tt) (λ _. cond_both (has_room s w parcel) (Ok (s, w)) (Err refusals.CountFull) IsStep (λ _. tt) (λ _. tt)))
    (λ _. tt)

pub settle_step : (source : DatabaseValue) (refuses : Document → Bool) (p : PeerValue) (id : SessionId) (parcel : ParcelValue) (result : Result Settled TargetFault) (q : PeerValue) → HasRun source id p.sessions → SettleGives refuses p id parcel result q → IfErr result IsStepFault
settle_step source refuses p id parcel result q run gives = go (settle_check p id parcel) checks gives
  where
    checks : IsStep (settle_check p id parcel)
    checks =
        subst (λ o. IsStep (found_answer (λ (s : SessionValue). settle_at s parcel (window_in s parcel.asked.lo parcel.asked.hi)) o)) (sym run.1)
        (check_step run.0 parcel (window_in run.0 parcel.asked.lo parcel.asked.hi))

    at_window : (s : SessionValue) (w : WindowValue) (r : Result Settled TargetFault) → SettlesAt refuses p parcel s w r q → IsStep r
    at_window s w (Ok settled) h = tt
    at_window s w (Err (refusals.Uncovered seq uncovered rev)) h = tt
    at_window s w (Err (refusals.Stopped n rest cause)) h = tt
    at_window s w (Err fault) h = absurd h

    go : (r : Result (SessionValue × WindowValue) TargetFault) → IsStep r → Settles refuses p parcel r result q → IsStep result
    go (Err fault) k h = subst IsStep (sym h.0) k
    go (Ok at) k h = at_window at.0 at.1 result h
