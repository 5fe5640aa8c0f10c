-- A run has read pages of the source, and closing it stores no window.
use Rattle.proof_prelude.proofs.{◌≡◌, ℕ, Bool, true, false, List, [], ◌∷◌, map, length, Option, Some, None, Result, Ok, refl, sym, ap, ◌∙◌, subst, inl, inr, arith, false≢true, both_ways, eq-eqb}
use Rattle.rev_tree.specs.{SessionId}
use Rattle.doc_json.specs.Document.{Document}
use Rattle.couch_base.specs.{Among, any_from, DatabaseValue, LawfulDatabase, WindowValue}
use Rattle.range_front.specs.{FrontWindow, Span, spans_from}
use Rattle.repl_peer.specs.{Report, LawfulSessions, PeerValue, SessionValue, is_of, new_session, begun as begun_by, after_conclude}
use Rattle.repl_target.specs.{Plan, IsGrown, begins_answer, after_begins, beginning_between, next_window, closed_as}
use Rattle.repl_target.proofs.{fresh_of, later_session, found-is}
use Rattle.pool_workers.specs.{IsNext, AllowsMore, KeepsPages, HasNoWindows, PoolFault}
use Rattle.pool_workers.proofs.{pages_record, pages_conclude}
use Rattle.repl_pool.specs.{ArePages, AreAllowed, IsPaged, IsRecorded, stopped, fewer, refused, ClosesRun, concluded, recorded}

allowed_of : (o : Option ℕ) (n : ℕ) (more : Option ℕ) → AllowsMore o n more → AreAllowed o n
allowed_of None n more h = tt
allowed_of (Some stop_after) n None h = absurd h
allowed_of (Some stop_after) n (Some m) h = omega (arith, h)

-- ---- the windows of a run

tails : {X : Type 0} (x y : X) (xs ys : List X) → ◌≡◌ {A = List X} (x ∷ xs) (y ∷ ys) → (x ≡ y) × (xs ≡ ys)
tails x y xs ys e = (cc, cc)

chained : (source : DatabaseValue) (plan : Plan) (lo : ℕ) (ws : List WindowValue) (fs : List FrontWindow) → map {B = ℕ × ℕ} (λ (w : WindowValue). (w.lo, w.hi)) ws ≡ map {B = ℕ × ℕ} (λ (s : Span). (s.lo, s.hi)) (spans_from lo fs)
    → ((w : WindowValue) → Among w ws → IsNext source plan w) → ArePages source plan lo ws
chained source plan lo [] fs e next = tt
chained source plan lo (w ∷ ws) [] e next = absurd (false≢true (ap is_none_left e))
  where
    is_none_left : List (ℕ × ℕ) → Bool
    is_none_left [] = true
    is_none_left (x ∷ xs) = false
chained source plan lo (w ∷ ws) (f ∷ fs) e next =
    let t = tails (w.lo, w.hi) (lo, f.hi) (map {B = ℕ × ℕ} (λ (v : WindowValue). (v.lo, v.hi)) ws) (map {B = ℕ × ℕ} (λ (s : Span). (s.lo, s.hi)) (spans_from f.hi fs)) e in
    let from : w.lo ≡ lo = ap (λ (p : ℕ × ℕ). p.0) t.0 in
    let upto : w.hi ≡ f.hi = ap (λ (p : ℕ × ℕ). p.1) t.0 in
    let n = next w (inl refl) in (
      omega (arith, n.1, from),
      n.2 ∙ ap (next_window source plan) from,
      chained source plan w.hi ws fs (t.1 ∙ ap (λ n. map {B = ℕ × ℕ} (λ (s : Span). (s.lo, s.hi)) (spans_from n fs)) (sym upto)) (λ v m. next v (inr m)),
    )

pub is_paged : (refuses : Document → Bool) (source target : PeerValue) (plan : Plan) (now : PeerValue) (more : Option ℕ) → LawfulDatabase source.db → LawfulSessions refuses (after_begins source target plan) → begins_answer source target plan ≡ Ok tt
    → IsGrown refuses source.db plan.chosen plan.session (after_begins source target plan) now → LawfulSessions refuses now → KeepsPages source.db plan plan.session more now.sessions → IsPaged source target now plan
is_paged refuses source target plan now more law l ok grown l' keeps =
    let t = later_session refuses source target plan now law l ok grown in
    let k = keeps t.session t.held t.id in
    record {
      session = t.session;
      held = found-is now.sessions plan.session t.session l'.distinct t.held t.id;
      pages = subst (λ n. ArePages source.db plan n t.session.windows) t.start
          (chained source.db plan t.session.front.start t.session.windows t.session.front.windows (l'.sessions t.session t.held).bounds k.0);
      allowed = allowed_of plan.stop_after (length t.session.windows) more k.1;
    }

-- a session that has begun has no windows
pub begun_fresh : (source target : PeerValue) (plan : Plan) (begun : PeerValue) → begins_answer source target plan ≡ Ok tt → begun ≡ after_begins source target plan → HasNoWindows plan.session begun.sessions
begun_fresh source target plan begun ok is s m own =
    let new = new_session plan.session (beginning_between source target plan.chosen) plan.at in
    let made : begun ≡ record target { sessions = new ∷ target.sessions } = is ∙ ap (begun_by target new) ok in
    elim (subst (λ (q : PeerValue). Among s q.sessions) made m) [
      | inl e ↦ ap (λ (x : SessionValue). x.windows) e
      | inr o ↦ absurd (both_ways _ (fresh_of source target plan ok) (any_from (is_of plan.session) s target.sessions o (eq-eqb s.id.0 plan.session.0 (ap (λ (i : SessionId). i.0) own))))
    ]

-- closing a run stores no window
recorded_pages : (db : DatabaseValue) (plan : Plan) (more : Option ℕ) (fault : Option PoolFault) (complete : Bool) (before after : PeerValue) (why : PoolFault) → KeepsPages db plan plan.session more before.sessions → IsRecorded plan fault complete before after why
    → KeepsPages db plan plan.session more after.sessions
recorded_pages db plan more fault complete before after why h (stopped e same) = pages_record db plan plan.session more before plan.at after same h
recorded_pages db plan more fault complete before after why h (fewer none less same) = pages_record db plan plan.session more before plan.at after same h
recorded_pages db plan more fault complete before after why h (refused none whole answer same) =
    let middle = after_conclude before plan.session plan.at in
    pages_record db plan plan.session more middle plan.at after (same ∙ ap (closed_as before plan) answer) (pages_conclude db plan plan.session more before plan.at middle refl h)

pub closes_pages : (db : DatabaseValue) (plan : Plan) (more : Option ℕ) (fault : Option PoolFault) (complete : Bool) (source before source' after : PeerValue) (outcome : Result Report PoolFault) → KeepsPages db plan plan.session more before.sessions
    → ClosesRun plan fault complete source before source' after outcome → KeepsPages db plan plan.session more after.sessions
closes_pages db plan more fault complete source before source' after outcome h (concluded c told put) = pages_conclude db plan plan.session more before plan.at after c.peer h
closes_pages db plan more fault complete source before source' after outcome h (recorded r put) = recorded_pages db plan more fault complete before after _ h r
