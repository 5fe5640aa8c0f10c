-- A session that has begun, in a later target that has grown by messages of the source.
use Rattle.proof_prelude.proofs.{◌≡◌, ◌≤◌, Bool, false, ◌∷◌, Result, Ok, Err, is_ok, refl, sym, ap, ◌∙◌, subst, inl, inr, arith, cond_both, false≢true, both_ways, eq-eqb}
use Rattle.rev_tree.specs.{SessionId}
use Rattle.doc_json.specs.Document.{Document}
use Rattle.couch_base.specs.{Among, LawfulDatabase, RowValue, WindowValue, any_from}
use Rattle.repl_log.specs.declared.replication.RepId.{RepId}
use Rattle.repl_peer.specs.{TargetFault, PeerValue, SessionValue, is_of, holds, covers, LawfulSessions, goal_answer, base_answer, new_session, begun, rep_between}
use Rattle.repl_peer.specs.declared.fault.TargetFault.TheVariants as faults
use Rattle.repl_target.specs.{Plan, start_between, base_at, checkpoint_of, begins_answer, after_begins, CoversFrom, scope_between, beginning_between, IsTiedWindow, IsGrown, EachStored}
use Rattle.repl_target.proofs.lemmas.ties.TiedPages.{chosen_member}
use Rattle.repl_target.proofs.lemmas.replication.CallLaws.{grown_law, grown_stores}
use Rattle.repl_target.proofs.lemmas.ties.TiedPeersCover.{windows_cover}

-- the session in a later target: its scope is kept, and its windows are tied to the source's database
pub record Later (source target : PeerValue) (plan : Plan) (now : PeerValue) : Type 0 where
  pub session : SessionValue
  pub held : Among session now.sessions
  pub id : session.id ≡ plan.session
  pub scope : session.scope ≡ scope_between source target plan.chosen
  pub start : session.front.start ≡ start_between source target plan.chosen
  pub tied : (w : WindowValue) → Among w session.windows → IsTiedWindow source.db plan.chosen w

-- no session of the target has the id of the new one
pub fresh_of : (source target : PeerValue) (plan : Plan) → begins_answer source target plan ≡ Ok tt → holds target.sessions plan.session ≡ false
fresh_of source target plan h =
    let answer = goal_answer (start_between source target plan.chosen) source.db.update_seq (base_answer target.sessions (rep_between source target plan.chosen) (base_at (checkpoint_of source target plan.chosen)) (start_between source target plan.chosen)) in
    cond_both (holds target.sessions plan.session) (Err faults.SessionExists) answer (λ (r : Result (Unit {0}) TargetFault). r ≡ Ok tt → holds target.sessions plan.session ≡ false)
    (λ _ k. absurd (false≢true (ap is_ok k))) (λ e _. e) h

pub later_session : (refuses : Document → Bool) (source target : PeerValue) (plan : Plan) (now : PeerValue) → LawfulDatabase source.db → LawfulSessions refuses (after_begins source target plan) → begins_answer source target plan ≡ Ok tt → IsGrown refuses source.db plan.chosen plan.session (after_begins source target plan) now → Later source target plan now
later_session refuses source target plan now law l ok grown =
    let p = after_begins source target plan in
    let new = new_session plan.session (beginning_between source target plan.chosen) plan.at in
    let is : p ≡ record target { sessions = new ∷ target.sessions } = ap (begun target new) ok in
    let there : Among new p.sessions = subst (λ (q : PeerValue). Among new q.sessions) (sym is) (inl refl) in
    let k = (grown_law refuses source.db plan.chosen plan.session p now law grown l).1.sessions new there in
    let own : SessionId → RepId → Type 0 = λ id rep. id ≡ plan.session in
    let none : EachStored own (IsTiedWindow source.db plan.chosen) (new ∷ target.sessions) =
    λ s m q w n. elim m [
      | inl e ↦ absurd (subst (Among w) (ap (λ (x : SessionValue). x.windows) e) n)
      | inr o ↦ absurd (both_ways _ (fresh_of source target plan ok) (any_from (is_of plan.session) s target.sessions o (eq-eqb s.id.0 plan.session.0 (ap (λ (i : SessionId). i.0) q))))
    ] in
    let stored = grown_stores own refuses source.db plan.chosen plan.session p now law grown (subst (λ (q : PeerValue). EachStored own (IsTiedWindow source.db plan.chosen) q.sessions) (sym is) none) in
    record {
      session = k.0;
      held = k.1;
      id = k.2.id;
      scope = k.2.scope;
      start = k.2.start;
      tied = λ w n. stored k.0 k.1 k.2.id w n;
    }

-- if the session is recorded at its goal, the source's feed above its start is covered
pub later_covers : (refuses : Document → Bool) (source target : PeerValue) (plan : Plan) (now : PeerValue) → LawfulSessions refuses now → (t : Later source target plan now) → source.db.update_seq ≤ t.session.recorded → CoversFrom source now plan.chosen (start_between source target plan.chosen)
later_covers refuses source target plan now l t reached row m leaf k =
    let d = chosen_member plan.chosen source.db (start_between source target plan.chosen) source.db.update_seq row m in
    let all = windows_cover refuses source.db plan.chosen now t.session (l.sessions t.session t.held) t.tied d.0 d.1 d.5 (omega (arith, t.start, d.3)) (omega (arith, d.4, reached)) in
    ap (λ (x : RowValue). covers now x.id leaf) d.2 ∙ all leaf (subst (λ (x : RowValue). Among leaf x.leaves) d.2 k)
