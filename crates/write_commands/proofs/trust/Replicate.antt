-- A session of `replicate` that reached its goal brings the source's selected feed to the target, and a failed
-- `replicate` has an expected error.
use Rattle.proof_prelude.proofs.{◌≡◌, ◌⊎◌, inl, inr, ℕ, Bool, true, false, List, Option, Some, None, Result, Ok, Err, arith, common_steps, IfOk, IfErr, refl, sym, ap, subst, ◌∙◌, true≢false}
use Rattle.doc_json.specs.{Choice}
use Rattle.repl_peer.specs.{TargetFault, PeerValue}
use Rattle.pool_workers.specs.{PoolFault}
use Rattle.pool_workers.specs.declared.fault.PoolFault.TheVariants as pool
use Rattle.repl_pool.specs.{IsExpectedRun}
use Rattle.repl_target.specs.{Plan, IsExpected}
use Rattle.repl_peer.specs.declared.fault.TargetFault.TheVariants as faults
use Rattle.script_engine.specs.{Told}
use Rattle.script_databases.specs.{IsConsistent, State, peer_at, GivesOrMemory, name_of, run_stop_of, stop_of, Refusal}
use Rattle.script_databases.specs.declared.refusal.Refusal.TheVariants as why
use Rattle.rev_core.specs.{◌>>=◌}
use Rattle.command_api.specs.{choice_given, database_of, told_of}
use Rattle.write_commands.specs.{EndsBy, Fails, FailsAlone, FailsInPool, MayFail, StopsIfAsked, ReplicateAsk, ReplicatesChosen, ReplicatesFound, ReportsReplication, both_of, ending_line, plan_of, replicated_text, with_drawn, with_session, CoversIfDone, IsCovered, IsCoveredBy, IsDone, Ending}
use Rattle.write_commands.specs.declared.replicate.Options.{Options}
use Rattle.write_commands.specs.declared.replicate.Ending.TheVariants.{Done, Shown, Stopped}
use Rattle.script_databases.specs.{AccountsUpTo, CoversUpTo, Nowhere}
use Rattle.script_databases.proofs.{Brings, accounts, same_Ok, alone_brings, alone_fails, brought, pool_brings, pool_fails, watched_brings, watched_fails}
use Rattle.write_commands.proofs.ReplicateLemmas.{same_peer}
use Rattle.command_api.proofs.{bound, found}

-- ---- an id is drawn, or not

with_drawn_same : (s : State) (given : Option ℕ) → IsConsistent s → IsConsistent (with_drawn s given)
with_drawn_same s (Some session) h = h
with_drawn_same s None h = h

-- ---- how it ended

module _ (old new : State) (a b : List ℕ) (s t : PeerValue) (plan : Plan) where
  -- a session that reached its goal has brought the feed
  abbrev pub BringsIfDone : Ending → Type 0
  BringsIfDone (Done report) = Brings old a b s t plan report.recorded new
  BringsIfDone (Shown watched) = Brings old a b s t plan watched.report.recorded new
  BringsIfDone (Stopped low_water) = Unit {0}

  pub brings_done : (ending : Ending) → IsDone ending → BringsIfDone ending → (n : ℕ) × Brings old a b s t plan n new
  brings_done (Done report) done k = (report.recorded, k)
  brings_done (Shown watched) done k = (watched.report.recorded, k)
  brings_done (Stopped low_water) done k = absurd done

  module _ (h : IsConsistent old) (h' : IsConsistent new) (at_s : peer_at old a ≡ Some s) (at_t : peer_at old b ≡ Some t) where
    covers_done : (n : ℕ) → Brings old a b s t plan n new → CoversUpTo new a b plan.chosen n × AccountsUpTo new a b plan.chosen n
    covers_done n k =
        let covers = brought old h a b s t at_s at_t plan n new k in
        (covers, accounts new h' a b plan.chosen n covers)

    covers_if_done : (ending : Ending) → BringsIfDone ending → CoversIfDone new a b plan.chosen ending
    covers_if_done (Done report) k = covers_done report.recorded k
    covers_if_done (Shown watched) k = covers_done watched.report.recorded k
    covers_if_done (Stopped low_water) k = tt

-- the guarantees of an ending, whose error is one of those that `fails` lists
module _ (old new : State) (a b : List ℕ) (s t : PeerValue) (plan : Plan) (options : Options) where
  abbrev Good : (Refusal → Type 0) → Result Ending Refusal → Type 0
  Good fails ending = IfOk ending (BringsIfDone old new a b s t plan) × IfErr ending fails × IfOk ending (StopsIfAsked options)

  alone_good : plan.stop_after ≡ options.stop_after → (fault : TargetFault) → IsExpected s t plan fault → Good FailsAlone (stop_of fault >>= λ (n : ℕ). Ok (Stopped n))
  alone_good same (faults.Unfinished low_water) h = (tt, tt, λ alone. (h.0, sym same ∙ h.1))
  alone_good same faults.BadBatch h = (tt, tt, tt)
  alone_good same faults.SamePeer h = (tt, tt, tt)
  alone_good same faults.SessionExists h = (tt, tt, tt)
  alone_good same faults.CountFull h = (tt, tt, tt)
  alone_good same (faults.Stopped settled rest cause) h = (tt, tt, tt)
  alone_good same faults.Memory h = (tt, tt, tt)
  alone_good same fault h = absurd h

  module _ (full : Type 0) (progress : Bool) (may : full → progress ≡ true) (other : options.alone ≡ false) where
    step_good : (fault : TargetFault) → IsExpectedRun full Nowhere s t plan (pool.Refused fault) → Good (FailsInPool progress) (stop_of fault >>= λ (n : ℕ). Ok (Stopped n))
    step_good (faults.Unfinished low_water) h = (tt, tt, λ alone. absurd (true≢false (sym alone ∙ other)))
    step_good faults.SessionExists h = (tt, tt, tt)
    step_good (faults.Gap expected) h = (tt, tt, tt)
    step_good faults.ForeignParcel h = (tt, tt, tt)
    step_good faults.AlreadyDone h = (tt, tt, tt)
    step_good faults.CountFull h = (tt, tt, tt)
    step_good (faults.Stopped settled rest cause) h = (tt, tt, tt)
    step_good (faults.Uncovered seq id rev) h = (tt, tt, tt)
    step_good faults.Memory h = (tt, tt, tt)
    step_good fault h = absurd h

    run_good : (fault : PoolFault) → IsExpectedRun full Nowhere s t plan fault → Good (FailsInPool progress) (run_stop_of fault >>= λ (n : ℕ). Ok (Stopped n))
    run_good pool.NoWorkers h = (tt, tt, tt)
    run_good pool.TooManyWorkers h = (tt, tt, tt)
    run_good pool.BadBatch h = (tt, tt, tt)
    run_good pool.SamePeer h = (tt, tt, tt)
    run_good (pool.Refused fault) h = step_good fault h
    run_good (pool.Halted place) h = absurd h
    run_good (pool.Hole seq id rev) h = absurd h
    run_good pool.CountFull h = (tt, tt, tt)
    run_good pool.BoardFull h = (tt, may h, tt)
    run_good pool.Memory h = (tt, tt, tt)

  module _ (h : IsConsistent old) (at_s : peer_at old a ≡ Some s) (at_t : peer_at old b ≡ Some t) (same : plan.stop_after ≡ options.stop_after) where
    ends_good : (alone progress : Bool) → options.alone ≡ alone → (ending : Result Ending Refusal) → EndsBy alone progress old a b s t plan ending new → Good (Fails alone progress) ending
    ends_good true progress by ending (Ok report, ran, is) = subst (Good FailsAlone) (sym is) (alone_brings old h a b s t at_s at_t plan (Ok report) new ran, tt, tt)
    ends_good true progress by ending (Err fault, ran, is) = subst (Good FailsAlone) (sym is) (alone_good same fault (alone_fails old h a b s t at_s at_t plan (Err fault) new ran))
    ends_good false true by ending (Ok watched, ran, is) =
        subst (Good (FailsInPool true)) (sym is) (watched_brings old h a b s t at_s at_t plan (Ok watched) new ran, tt, tt)
    ends_good false true by ending (Err fault, ran, is) =
        subst (Good (FailsInPool true)) (sym is) (run_good (Unit {0}) true (λ full. refl) by fault (watched_fails old h a b s t at_s at_t plan (Err fault) new ran))
    ends_good false false by ending (Ok report, ran, is) = subst (Good (FailsInPool false)) (sym is) (pool_brings old h a b s t at_s at_t plan (Ok report) new ran, tt, tt)
    ends_good false false by ending (Err fault, ran, is) = subst (Good (FailsInPool false)) (sym is) (run_good ⊥ false (λ full. absurd full) by fault (pool_fails old h a b s t at_s at_t plan (Err fault) new ran))

-- ---- its output

-- a successful line
pub record Brought (old new : State) (ask : ReplicateAsk) (text : List ℕ) : Type 0 where
  pub source : PeerValue
  pub target : PeerValue
  pub at_source : peer_at old ask.source ≡ Some source
  pub at_target : peer_at old ask.target ≡ Some target
  pub plan : Plan
  pub ending : Ending
  pub prints : text ≡ ending_line plan.session ending
  pub given : choice_given ask.doc_ids ≡ Ok plan.chosen
  pub brings : BringsIfDone (with_session old ask.options) new ask.source ask.target source target plan ending
  pub stops : StopsIfAsked ask.options ending

-- any line
abbrev pub IsBrought : State → State → ReplicateAsk → Told → Type 0
IsBrought old new ask (Ok text) = Brought old new ask text
IsBrought old new ask (Err name) = (refusal : Refusal) × (name ≡ name_of refusal) × MayFail ask refusal

pub covered_by : (old new : State) → IsConsistent old → IsConsistent new → (ask : ReplicateAsk) (text : List ℕ) (k : Brought old new ask text) → IsCoveredBy new ask text k.plan.session k.ending k.plan.chosen
covered_by old new h h' ask text k =
    let at_s = same_peer old ask.options.session ask.source ∙ k.at_source in
    let at_t = same_peer old ask.options.session ask.target ∙ k.at_target in
    (k.prints, k.given, covers_if_done (with_session old ask.options) new ask.source ask.target k.source k.target k.plan (with_drawn_same old ask.options.session h) h' at_s at_t k.ending k.brings, k.stops)

refused_brought : (old new : State) (ask : ReplicateAsk) (told : Told) (refusal : Refusal) → told ≡ Err (name_of refusal) → MayFail ask refusal → IsBrought old new ask told
refused_brought old new ask told refusal e may = subst (IsBrought old new ask) (sym e) (refusal, refl, may)

memory_fails : (alone progress : Bool) → Fails alone progress why.Memory
memory_fails true progress = tt
memory_fails false progress = tt

-- every line may run out of memory
pub may_memory : (ask : ReplicateAsk) → MayFail ask why.Memory
may_memory ask = inr (inr (inr (memory_fails ask.options.alone ask.options.progress)))

choice_fails : (ask : ReplicateAsk) (refusal : Refusal) → (choice_given ask.doc_ids ≡ Err refusal) ⊎ (refusal ≡ why.Memory) → MayFail ask refusal
choice_fails ask refusal (inl invalid) = inr (inr (inl invalid))
choice_fails ask refusal (inr none) = subst (MayFail ask) (sym none) (may_memory ask)

-- a database does not exist
absent : (old : State) (ask : ReplicateAsk) (refusal : Refusal) → both_of old ask ≡ Err refusal → refusal ≡ why.NoDatabase
absent old ask refusal e = grind (arith, common_steps)

module _ (old new : State) (h : IsConsistent old) (ask : ReplicateAsk) where
  module _ (s t : PeerValue) (at_s : peer_at old ask.source ≡ Some s) (at_t : peer_at old ask.target ≡ Some t) where
    tells : (plan : Plan) (ending : Result Ending Refusal) → choice_given ask.doc_ids ≡ Ok plan.chosen → Good (with_session old ask.options) new ask.source ask.target s t plan ask.options (Fails ask.options.alone ask.options.progress) ending
        → IsBrought old new ask (told_of (replicated_text plan.session ending))
    tells plan (Ok ending) given good = record { source = s; target = t; at_source = at_s; at_target = at_t; plan = plan; ending = ending; prints = refl; given = given; brings = good.0; stops = good.2 }
    tells plan (Err refusal) given good = (refusal, refl, inr (inr (inr good.1)))

    chosen_brought : (chosen : Result Choice Refusal) (told : Told) → GivesOrMemory chosen (choice_given ask.doc_ids) → ReplicatesChosen old ask (s, t) chosen told new → IsBrought old new ask told
    chosen_brought (Err refusal) told gives d = refused_brought old new ask told refusal d.0 (choice_fails ask refusal gives)
    chosen_brought (Ok c) told gives (inl d) = refused_brought old new ask told why.BadMoment d.1.0 (inr (inl refl))
    chosen_brought (Ok c) told gives (inr (late, ending, ends, is)) =
        let at_s' = same_peer old ask.options.session ask.source ∙ at_s in
        let at_t' = same_peer old ask.options.session ask.target ∙ at_t in
        let plan = plan_of old ask.options c in
        subst (IsBrought old new ask) (sym is)
        (tells plan ending gives (ends_good (with_session old ask.options) new ask.source ask.target s t plan ask.options (with_drawn_same old ask.options.session h) at_s' at_t' refl ask.options.alone ask.options.progress refl ending ends))

  found_brought : (told : Told) (both : Result (PeerValue × PeerValue) Refusal) → both_of old ask ≡ both → ReplicatesFound old ask both told new → IsBrought old new ask told
  found_brought told (Err refusal) e d = refused_brought old new ask told refusal d.0 (inl (absent old ask refusal e))
  found_brought told (Ok both) e d =
      let k1 = bound (database_of old ask.source) _ both e in
      let k2 = bound (database_of old ask.target) _ both k1.2 in
      let is : (k1.0, k2.0) ≡ both = same_Ok _ both k2.2 in
      let at_s : peer_at old ask.source ≡ Some both.0 = found old ask.source k1.0 k1.1 ∙ ap (λ (x : PeerValue × PeerValue). Some x.0) is in
      let at_t : peer_at old ask.target ≡ Some both.1 = found old ask.target k2.0 k2.1 ∙ ap (λ (x : PeerValue × PeerValue). Some x.1) is in
      chosen_brought both.0 both.1 at_s at_t d.0 told d.1 d.2

  pub reports_brought : (told : Told) → ReportsReplication old ask told new → IsBrought old new ask told
  reports_brought told d = found_brought told (both_of old ask) refl d

pub reports_covered : (old new : State) → IsConsistent old → IsConsistent new → (ask : ReplicateAsk) (told : Told) → ReportsReplication old ask told new → IsCovered new ask told
reports_covered old new h h' ask told d = go told (reports_brought old new h ask told d)
  where
    go : (told : Told) → IsBrought old new ask told → IsCovered new ask told
    go (Ok text) k = (k.plan.session, k.ending, k.plan.chosen, covered_by old new h h' ask text k)
    go (Err name) k = k
