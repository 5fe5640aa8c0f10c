-- The end of a run.
use Rattle.proof_prelude.proofs.{◌≡◌, ℕ, ◌==◌, Bool, Some, Ok, refl, sym, ap, ◌∙◌, subst, arith, cond-true, eq-eqb, find}
use Rattle.rev_tree.specs.{SessionId}
use Rattle.doc_json.specs.Document.{Document}
use Rattle.doc_json.specs.{Choice}
use Rattle.couch_base.specs.{DatabaseValue, LawfulDatabase}
use Rattle.repl_peer.specs.{Report, PeerValue, SessionValue, is_of, session_in, LawfulSessions, new_session, begun as begun_by, after_record, conclude_answer, after_conclude, read_of, read_in}
use Rattle.repl_target.specs.{Plan, begins_answer, after_begins, beginning_between, Record, Conclude, IsGrown}
use Rattle.repl_peer.proofs.{session_found}
use Rattle.repl_target.proofs.{found-is, concludes, grown_law, grown-later, grown-one, copied}
use Rattle.pool_workers.specs.{GrownPeer, HasRun}
use Rattle.repl_pool.specs.{EndsWell}

module _ {F : Type 0} (refuses : F → Document → Bool) (db : DatabaseValue) (chosen : Choice) (run : SessionId) where
  pub grown_record : (p q : F × PeerValue) (at : ℕ) → q.0 ≡ p.0 → q.1 ≡ after_record p.1 run at → GrownPeer refuses db chosen run p q
  grown_record p q at same is = (same, grown-one (refuses p.0) db chosen run p.1 q.1 (Record run at) refl is)

  pub grown_conclude : (p q : F × PeerValue) (at : ℕ) → q.0 ≡ p.0 → q.1 ≡ after_conclude p.1 run at → GrownPeer refuses db chosen run p q
  grown_conclude p q at same is = (same, grown-one (refuses p.0) db chosen run p.1 q.1 (Conclude run at) refl is)

  pub grown_then : (p q r : F × PeerValue) → GrownPeer refuses db chosen run p q → GrownPeer refuses db chosen run q r → GrownPeer refuses db chosen run p r
  grown_then p q r a b = (b.0 ∙ a.0, grown-later (refuses p.0) db chosen run p.1 q.1 r.1 a.1 (subst (λ f. IsGrown (refuses f) db chosen run q.1 r.1) a.0 b.1))

-- the guarantees of a concluded run
pub ends_well : (refuses : Document → Bool) (source target : PeerValue) (plan : Plan) (p now : PeerValue) (report : Report) (n : ℕ) → LawfulDatabase source.db → LawfulSessions refuses (after_begins source target plan) → begins_answer source target plan ≡ Ok tt
    → IsGrown refuses source.db plan.chosen plan.session (after_begins source target plan) p → read_in p.sessions plan.session ≡ n → conclude_answer p plan.session ≡ Ok report → now ≡ after_conclude p plan.session plan.at → EndsWell source target now plan n report
ends_well refuses source target plan p now report n law l ok grown reads answer after =
    let e = concludes refuses source target plan p report now law l ok grown answer after in
    let read_is : report.counts.read ≡ e.reported.session.counts.read = ap (λ (r : Report). r.counts.read) e.reported.is in
    let was : read_in p.sessions plan.session ≡ e.closed.session.counts.read = ap read_of e.closed.was in
    let kept : e.reported.session.counts.read ≡ e.closed.session.counts.read = ap (λ (s : SessionValue). s.counts.read) e.same in
    record { reported = e.reported; covered = e.covered; copied = copied refuses source target plan p report now law ok e; sum = omega (arith, reads, was, kept, read_is) }

-- ---- any run

-- the target keeps the run's session
pub held_grown : {F : Type 0} (refuses : F → Document → Bool) (db : DatabaseValue) (chosen : Choice) (given now : F × PeerValue) (id : SessionId) → LawfulDatabase db → LawfulSessions (refuses given.0) given.1 → GrownPeer refuses db chosen id given now
    → (s : SessionValue) × (session_in given.1.sessions id ≡ Some s) → (t : SessionValue) × (session_in now.1.sessions id ≡ Some t)
held_grown refuses db chosen given now id law l h held =
    let calls = grown_law (refuses given.0) db chosen id given.1 now.1 law h.1 l in
    let found = session_found given.1.sessions id held.0 held.1 in
    let k = calls.1.sessions held.0 found.0 in
    (k.0, ap (λ n. find (λ (x : SessionValue). x.id.0 == n) now.1.sessions) (sym found.1) ∙ found-is now.1.sessions held.0.id k.0 calls.0.distinct k.1 k.2.id)

-- the session that has begun
begun_is : (source target : PeerValue) (plan : Plan) (begun : PeerValue) → begins_answer source target plan ≡ Ok tt → begun ≡ after_begins source target plan → session_in begun.sessions plan.session ≡ Some (new_session plan.session (beginning_between source target plan.chosen) plan.at)
begun_is source target plan begun ok is =
    let new = new_session plan.session (beginning_between source target plan.chosen) plan.at in
    ap (λ (q : PeerValue). session_in q.sessions plan.session) (is ∙ ap (begun_by target new) ok)
    ∙ cond-true (is_of plan.session new) (Some new) (session_in target.sessions plan.session) (eq-eqb plan.session.0 plan.session.0 refl)

pub begun_held : (source target : PeerValue) (plan : Plan) (begun : PeerValue) → begins_answer source target plan ≡ Ok tt → begun ≡ after_begins source target plan → (s : SessionValue) × (session_in begun.sessions plan.session ≡ Some s)
begun_held source target plan begun ok is = (new_session plan.session (beginning_between source target plan.chosen) plan.at, begun_is source target plan begun ok is)

-- it is of the source's life, with its update sequence as goal
pub begun_run : (source target : PeerValue) (plan : Plan) (begun : PeerValue) → begins_answer source target plan ≡ Ok tt → begun ≡ after_begins source target plan → HasRun source.db plan.session begun.sessions
begun_run source target plan begun ok is = (new_session plan.session (beginning_between source target plan.chosen) plan.at, begun_is source target plan begun ok is, refl, refl)
