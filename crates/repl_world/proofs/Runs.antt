-- Runs of steps, and the guarantees of a tied world.
use Rattle.proof_prelude.proofs.{◌≡◌, ℕ, suc, ◌+◌, ◌<◌, ◌≤◌, ◌==◌, List, [], ◌∷◌, ◌++◌, Bool, Option, Some, None, Result, Ok, Err, OnOk, OnErr, IfSome, take, get_or, length, slice_get, take_all, refl, sym, ap, ◌∙◌, subst, inl, inr, arith, cond-true, slice_get-get_or, same_Some, eq-eqb}
use Rattle.std.proofs.Math.Seq.{take-suc}
use Rattle.rev_tree.specs.{SessionId}
use Rattle.doc_json.specs.Document.{Document}
use Rattle.couch_base.specs.{Among, WindowValue, ParcelValue}
use Rattle.repl_peer.specs.{PeerValue, BackupValue, GivesUnlessMemory, append_answer, after_append, LawfulSessions, SettleGives, stopped_at, Settled, TargetFault}
use Rattle.repl_target.specs.{IsTiedParcel, after_some, most_settled}
use Rattle.repl_peer.specs.declared.fault.TargetFault.TheVariants as faults
use Rattle.repl_target.proofs.{honest_is, audited_is, tied_none, settle_left, settle_gives, settle_stops, own_covered}
use Rattle.repl_peer.proofs.{append_refused}
use Rattle.repl_world.specs.declared.fault.WorldFault.TheVariants.{SamePeer}
use Rattle.repl_world.specs.{Step, BagValue, empty_bag, WorldValue, new_world, new_answer, appends, settles, stops, happens, run, IsStopped, CutShort, StoppedIn, IsWorld, HoldNone, IsTrustworthy}
use Rattle.doc_json.specs.{Choice}
use Rattle.repl_world.specs.Tied.{Tied}
use Rattle.repl_world.proofs.Steps.{happens_tied, cut_tied}

-- ---- new worlds

pub new_refused : {F : Type 0} (source target : F × PeerValue) (chosen : Choice) → source.1.db.uuid ≡ target.1.db.uuid → Err SamePeer ≡ new_answer source target chosen
new_refused source target chosen same = sym (cond-true (source.1.db.uuid == target.1.db.uuid) (Err SamePeer) (Ok ((source.0, target.0), new_world source.1 target.1 chosen)) (eq-eqb _ _ same))

-- if the target has no session of the replication, and the source no entry, everything is tied
pub new_tied : (source target : PeerValue) (chosen : Choice) (bag : BagValue) (backups : List BackupValue) → bag ≡ empty_bag → backups ≡ [] → HoldNone source target chosen → Tied (record { source = source; target = target; chosen = chosen; bag = bag; backups = backups })
new_tied source target chosen bag backups is empty none =
    subst (λ (b : BagValue). Tied (record { source = source; target = target; chosen = chosen; bag = b; backups = backups })) (sym is)
    (subst (λ (bs : List BackupValue). Tied (record { source = source; target = target; chosen = chosen; bag = empty_bag; backups = bs })) (sym empty)
    (record {
      peers = record {
        pair = record { sessions = λ s m e. absurd (none.sessions s m e); log = λ e m. absurd (subst (Among e) none.log m) };
        copies = λ b m. absurd m;
      };
      window_lives = λ x m. absurd m;
      log_lives = λ g m. absurd m;
      windows = λ x m. absurd m;
      asked = λ a m. absurd m;
      parcels = λ p m. absurd m;
      logs = λ g m. absurd m;
      entries = λ e m. absurd m;
    }))

-- ---- the steps taken so far

-- one more step
pub run_more : (refuses : Document → Bool) (w : WorldValue) (xs : List Step) (x : Step) → run refuses w (xs ++ x ∷ []) ≡ happens refuses (run refuses w xs) x
run_more refuses w [] x = refl
run_more refuses w (y ∷ xs) x = run_more refuses (happens refuses w y) xs x

-- the step at an index is the one after the previous ones
pub run_next : (refuses : Document → Bool) (w v now : WorldValue) (steps : List Step) (k : ℕ) (step : Step) → k < length steps → step ≡ get_or steps k step → v ≡ run refuses w (take k steps) → now ≡ happens refuses v step → now ≡ run refuses w (take (k + 1) steps)
run_next refuses w v now steps k step within at before is =
    is
    ∙ ap (λ x. happens refuses x step) before
    ∙ sym (run_more refuses w (take k steps) step)
    ∙ sym (ap (run refuses w) (next steps k step within ∙ ap (λ x. take k steps ++ x ∷ []) (sym at)))
  where
    next : (steps : List Step) (k : ℕ) (d : Step) → k < length steps → take (k + 1) steps ≡ take k steps ++ get_or steps k d ∷ []
    next steps k d h = let e : k + 1 ≡ suc k = omega arith in ap (λ n. take n steps) e ∙ take-suc steps k d h

-- all steps
pub run_all : (refuses : Document → Bool) (w v : WorldValue) (steps : List Step) (k : ℕ) → length steps ≤ k → v ≡ run refuses w (take k steps) → v ≡ run refuses w steps
run_all refuses w v steps k over is = is ∙ ap (run refuses w) (take_all k steps over)

-- a step runs out of memory
pub stopped_at_step : {A E : Type 0} (refuses : Document → Bool) (w v now : WorldValue) (steps : List Step) (k : ℕ) (step : Step) (result : Result A E) → k < length steps → step ≡ get_or steps k step → v ≡ run refuses w (take k steps) → CutShort refuses v step now
    → OnErr result (StoppedIn refuses w steps now)
stopped_at_step refuses w v now steps k step (Ok done) within at before is = tt
stopped_at_step refuses w v now steps k step (Err fault) within at before is =
    (k, step, slice_get-get_or steps k step within ∙ ap Some (sym at), subst (λ x. CutShort refuses x step now) before is)

-- the world stays tied after a step, whatever its result
pub taken_tied : {A E : Type 0} (refuses : Document → Bool) (w : WorldValue) (step : Step) (result : Result A E) (now : WorldValue) → IsWorld refuses w
    → OnOk result (now ≡ happens refuses w step) → OnErr result (CutShort refuses w step now) → Tied w → Tied now
taken_tied refuses w step (Ok done) now l ok err h = subst Tied (sym ok) (happens_tied refuses w step l h)
taken_tied refuses w step (Err fault) now l ok err h = cut_tied refuses w step now l err h

-- ---- settling

module _ (refuses : Document → Bool) (w : WorldValue) (session : SessionId) (place : ℕ) (held : ℕ × ParcelValue) (there : slice_get w.bag.parcels place ≡ Some held) (parcel : ParcelValue) (same : parcel ≡ held.1) (result : Result Settled TargetFault) (q : PeerValue)
    (gives : SettleGives refuses w.target session parcel result q) where
  left : (o : Option ℕ) → stopped_at result ≡ o → q ≡ settle_left refuses w.target session held.1 o
  left o is =
      subst (λ p. q ≡ settle_left refuses w.target session held.1 p) is
      (settle_gives refuses w.target session held.1 result q (subst (λ p. SettleGives refuses w.target session p result q) same gives))

  pub settled_ok : {E : Type 0} (r : Result (Unit {0}) E) → OnOk r (stopped_at result ≡ None) → OnOk r (record w { target = q } ≡ settles refuses w session (slice_get w.bag.parcels place))
  settled_ok (Ok done) h = ap (λ t. record w { target = t }) (left None h) ∙ sym (ap (settles refuses w session) there)
  settled_ok (Err e) h = tt

  pub settled_err : {E : Type 0} (r : Result (Unit {0}) E) → OnErr r ((n : ℕ) × (stopped_at result ≡ Some n)) → OnErr r (IsStopped refuses w session (slice_get w.bag.parcels place) (record w { target = q }))
  settled_err (Ok done) h = tt
  settled_err (Err e) h =
      elim (settle_stops refuses w.target session parcel result q gives h.0 h.1) [
        | inl kept ↦ inl (ap (λ t. record w { target = t }) kept)
        | inr stops_at ↦ inr (
          h.0,
          subst (λ (o : Option (ℕ × ParcelValue)). IfSome o (λ (p : ℕ × ParcelValue). h.0 ≤ most_settled refuses w.target session p.1)) (sym there) (subst (λ (x : ParcelValue). h.0 ≤ most_settled refuses w.target session x) same stops_at.0),
          ap (λ t. record w { target = t }) (stops_at.1 ∙ ap (λ x. after_some refuses w.target session x h.0) same) ∙ sym (ap (stops refuses w session h.0) there),
        )
      ]

-- ---- storing

-- the stored window is the one at that index, even if storing fails
module _ (refuses : Document → Bool) (w : WorldValue) (session : SessionId) (place : ℕ) (x : WindowValue) (there : slice_get w.bag.windows place ≡ Some x) (window : WindowValue) (same : window ≡ x) (law : LawfulSessions refuses w.target) (result : Result (Unit {0}) TargetFault) (q : PeerValue)
    (answer : GivesUnlessMemory result (append_answer w.target session window)) (ok : OnOk result (q ≡ after_append w.target session window)) (err : OnErr result (q ≡ w.target)) where
  Stores : PeerValue → Type 0
  Stores p = record w { target = p } ≡ appends w session (slice_get w.bag.windows place)

  stored : q ≡ after_append w.target session window → Stores q
  unfolding Stores
  stored is = ap (λ t. record w { target = t }) (is ∙ ap (after_append w.target session) same) ∙ sym (ap (appends w session) there)

  pub appended_ok : {E : Type 0} (r : Result (Unit {0}) E) → OnOk r (result ≡ Err faults.Memory → ⊥) → OnOk r (record w { target = q } ≡ appends w session (slice_get w.bag.windows place))
  unfolding Stores
  appended_ok (Err e) h = tt
  appended_ok (Ok done) h = go result refl answer ok err
    where
      go : (a : Result (Unit {0}) TargetFault) → result ≡ a → GivesUnlessMemory a (append_answer w.target session window) → OnOk a (q ≡ after_append w.target session window) → OnErr a (q ≡ w.target) → Stores q
      go (Ok stored_now) e k is stays = stored is
      go (Err faults.Memory) e k is stays = absurd (h e)
      go (Err why) e k is stays = stored (stays ∙ sym (append_refused refuses w.target session window why law (sym k)))

  pub appended_err : {E : Type 0} (r : Result (Unit {0}) E) → OnErr r (result ≡ Err faults.Memory) → OnErr r (record w { target = q } ≡ w)
  appended_err (Ok done) h = tt
  appended_err (Err e) h = ap (λ t. record w { target = t }) (subst (λ a. OnErr a (q ≡ w.target)) h err)

-- ---- the guarantees of a tied world

pub trustworthy : (refuses : Document → Bool) (w : WorldValue) → IsWorld refuses w → Tied w → IsTrustworthy refuses w
trustworthy refuses w l h =
    record {
      tied = h;
      honest = honest_is refuses w.source w.target w.chosen l.target.sessions h.peers.pair;
      common = audited_is refuses w.source w.target w.chosen l.target.sessions h.peers.pair;
      clean = tied_none refuses w.source w.target w.chosen l.target.sessions h.peers.pair;
      covered = λ p m s n x k own life result q gives.
          (let t = h.parcels p m in
          let same : x ≡ t.window = same_Some x t.window (sym own ∙ t.own) in
          let tied = t.tied (ap (λ (y : WindowValue). y.life) (sym same) ∙ life) in
          own_covered refuses w.target s x p.1 l.target.sessions n k (subst (λ v. IsTiedParcel w.target.db v p.1) (sym same) tied) (l.bag.parcels_are p m) result q gives);
    }
