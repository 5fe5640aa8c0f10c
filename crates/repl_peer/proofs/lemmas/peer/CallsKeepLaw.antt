-- Loading, editing and beginning keep the peer's invariant and everything covered.
use Rattle.proof_prelude.proofs.{◌≡◌, ◌⊎◌, ℕ, ◌<◌, ◌≤◌, ◌^◌, ◌==◌, List, [], ◌∷◌, ◌++◌, Bool, false, ◌&&◌, Option, Some, None, Result, Ok, Err, refl, sym, ap, subst, inl, inr, arith, eqb, nat_lt, IsDistinct, AllByRecursion, and_parts, cond_both, eqb-false, or_parts, IsDistinct-cons, slice_get, eqb-true, ltb-false, ne_eqb}
use Rattle.rev_core.specs.{RevId}
use Rattle.rev_tree.specs.{SessionId}
use Rattle.doc_json.specs.Document.{Document}
use Rattle.couch_base.specs.{Among, Id, put_answer, is_changed, edited, edit_document, BaseFault, IsLater-same, IsLater-after_put, found_member, at-append}
use Rattle.range_front.specs.{IsFront-no_windows}
use Rattle.repl_log.specs.declared.replication.RepId.{RepId}
use Rattle.repl_peer.specs.{TargetFault, PeerValue, SessionValue, WrittenValue, new_peer_at, written_of, is_of, holds, next_local, after_load, load_edited, after_edit, start_answer, base_in, on_base, base_answer, goal_answer, begin_answer, new_session, begun, after_begin, LawfulSession, LawfulSessions, session_numbers, IsLaterPeer, Beginning}
use Rattle.repl_peer.specs.declared.fault.TargetFault.TheVariants as faults
use Rattle.repl_log.specs.{same_rep, same_rep-is, same_id}
use Rattle.repl_peer.proofs.lemmas.peer.LaterPeers.{Keeps-same, IsLaterPeer-same, lawful-later}

-- ---- a new peer

pub new_law : (refuses : Document → Bool) (uuid seq : ℕ) → LawfulSessions refuses (new_peer_at uuid seq)
unfolding IsDistinct
new_law refuses uuid seq = record { sessions = λ s m. absurd m; based = tt; distinct = tt }

-- ---- local writes

locals_later : (p : PeerValue) (d : Document) (n : ℕ) (x : WrittenValue) → slice_get p.locals n ≡ Some x → slice_get (after_load p d).locals n ≡ Some x
locals_later p d n x e =
    cond_both (is_changed (put_answer p.db d)) (p.locals ++ written_of d ∷ []) p.locals (λ (xs : List WrittenValue). slice_get xs n ≡ Some x) (λ _. at-append p.locals (written_of d ∷ []) n x e) (λ _. e)

pub load_later : (p : PeerValue) (d : Document) → IsLaterPeer p (after_load p d)
load_later p d = record { db = IsLater-after_put p.db d (next_local p); locals = locals_later p d; sessions = λ s m. (s, m, Keeps-same s) }

pub load_law : (refuses : Document → Bool) (p : PeerValue) (d : Document) → LawfulSessions refuses p → LawfulSessions refuses (after_load p d)
load_law refuses p d l = record {
  sessions = λ s m. lawful-later refuses p (after_load p d) s (load_later p d) (l.sessions s m);
  based = l.based;
  distinct = l.distinct;
}

-- what holds after each put of a user holds after an edit
pub edit_by_load : (P : PeerValue → Type 0) (p : PeerValue) → ((d : Document) → P (after_load p d)) → P p → (id : Id) (parent : Option RevId) (deleted : Bool) (body : List ℕ) → P (after_edit p id parent deleted body)
edit_by_load P p puts h id parent deleted body = go (edited p.db id parent deleted body)
  where
    go : (e : Result (RevId × Option RevId) BaseFault) → P (load_edited p id deleted body e)
    go (Ok e) = puts (edit_document id e deleted body)
    go (Err fault) = h

pub edit_later : (p : PeerValue) (id : Id) (parent : Option RevId) (deleted : Bool) (body : List ℕ) → IsLaterPeer p (after_edit p id parent deleted body)
edit_later p = edit_by_load (IsLaterPeer p) p (load_later p) (IsLaterPeer-same p)

-- ---- beginning

starts_within : (start recorded : ℕ) (done : Unit {0}) → start_answer start recorded ≡ Ok done → start ≤ recorded
starts_within start recorded done h =
    cond_both (nat_lt recorded start) (Err (faults.StartAboveBase recorded)) (Ok tt) (λ (r : Result (Unit {0}) TargetFault). r ≡ Ok done → start ≤ recorded) (λ _ k. cc k) (λ e _. ltb-false recorded start e) h

-- the base is an earlier session of the same replication
is_based : (sessions : List SessionValue) (rep : RepId) (base : Option SessionId) (start : ℕ) (done : Unit {0}) → base_answer sessions rep base start ≡ Ok done
    → ((base ≡ None) × (start ≡ 0)) ⊎ ((b : SessionValue) × Among b sessions × (base ≡ Some b.id) × (rep ≡ b.rep) × (start ≤ b.recorded))
is_based sessions rep None start done h = let least = starts_within start 0 done h in inl (refl, omega (arith, least))
is_based sessions rep (Some base) start done h = inr (go (base_in sessions rep base) refl h)
  where
    go : (o : Option SessionValue) → base_in sessions rep base ≡ o → on_base start o ≡ Ok done → (b : SessionValue) × Among b sessions × (Some base ≡ Some b.id) × (rep ≡ b.rep) × (start ≤ b.recorded)
    go None e h = cc h
    go (Some b) e h =
        let found = found_member (λ (s : SessionValue). is_of base s && same_rep s.rep rep) sessions b e in
        let both = and_parts _ _ found.1 in
        (b, found.0, ap Some (same_id base b.id (sym (eqb-true _ _ both.0))), sym (same_rep-is b.rep rep both.1), starts_within start b.recorded done h)

goal_within : (start goal : ℕ) (answer : Result (Unit {0}) TargetFault) (done : Unit {0}) → goal_answer start goal answer ≡ Ok done → (start ≤ goal) × (answer ≡ Ok done)
goal_within start goal (Err fault) done h = cc h
goal_within start goal (Ok x) done h =
    (cond_both (nat_lt goal start) (Err faults.GoalBelowStart) (Ok tt) (λ (r : Result (Unit {0}) TargetFault). r ≡ Ok done → start ≤ goal) (λ _ k. cc k) (λ e _. ltb-false goal start e) h, refl)

-- the checks of beginning a session have passed
record Begins (p : PeerValue) (id : SessionId) (b : Beginning) (done : Unit {0}) : Type 0 where
  fresh : holds p.sessions id ≡ false
  within : b.start ≤ b.scope.goal
  based : base_answer p.sessions b.scope.rep b.scope.base b.start ≡ Ok done

begins : (p : PeerValue) (id : SessionId) (b : Beginning) (done : Unit {0}) → begin_answer p id b ≡ Ok done → Begins p id b done
begins p id b done h =
    cond_both (holds p.sessions id) (Err faults.SessionExists) (goal_answer b.start b.scope.goal (base_answer p.sessions b.scope.rep b.scope.base b.start)) (λ (r : Result (Unit {0}) TargetFault). r ≡ Ok done → Begins p id b done)
    (λ _ k. cc k)
    (λ e k. let w = goal_within b.start b.scope.goal (base_answer p.sessions b.scope.rep b.scope.base b.start) done k in record { fresh = e; within = w.0; based = w.1 })
    h

-- a number that no session has
fresh_number : (sessions : List SessionValue) (id : SessionId) → holds sessions id ≡ false → AllByRecursion (λ n. eqb id.0 n ≡ false) (session_numbers sessions)
fresh_number [] id h = tt
fresh_number (s ∷ sessions) id h =
    let parts = or_parts (s.id.0 == id.0) (holds sessions id) h in
    (ne_eqb id.0 s.id.0 (λ e. eqb-false s.id.0 id.0 parts.0 (sym e)), fresh_number sessions id parts.1)

begun_later : (p : PeerValue) (s : SessionValue) (r : Result (Unit {0}) TargetFault) → IsLaterPeer p (begun p s r)
begun_later p s (Ok done) = record { db = IsLater-same p.db; locals = λ n x e. e; sessions = λ x m. (x, inr m, Keeps-same x) }
begun_later p s (Err fault) = IsLaterPeer-same p

pub begin_later : (p : PeerValue) (id : SessionId) (b : Beginning) (at : ℕ) → IsLaterPeer p (after_begin p id b at)
begin_later p id b at = begun_later p (new_session id b at) (begin_answer p id b)

new_lawful : (refuses : Document → Bool) (p : PeerValue) (id : SessionId) (b : Beginning) (at : ℕ) → b.start < 2 ^ 64 → b.start ≤ b.scope.goal → LawfulSession refuses p (new_session id b at)
new_lawful refuses p id b at small within = record {
  store = record { front = IsFront-no_windows b.start small; bounds = refl; within = within; windows = tt; start = omega arith; recorded = omega arith };
  done = λ w m. absurd m;
  ledger = λ x m. absurd m;
  arrivals = λ a m. absurd m;
  stands = λ a m. absurd m;
  counts = record { written = refl; failures = refl; read = refl };
}

pub begin_law : (refuses : Document → Bool) (p : PeerValue) (id : SessionId) (b : Beginning) (at : ℕ) → b.start < 2 ^ 64 → LawfulSessions refuses p → LawfulSessions refuses (after_begin p id b at)
begin_law refuses p id b at small l = go (begin_answer p id b) refl
  where
    go : (r : Result (Unit {0}) TargetFault) → begin_answer p id b ≡ r → LawfulSessions refuses (begun p (new_session id b at) r)
    go (Err fault) e = l
    go (Ok done) e =
        let new = new_session id b at in
        let q : PeerValue = record p { sessions = new ∷ p.sessions } in
        let k = begins p id b done e in
        record {
          sessions = λ s m. elim m [
            | inl i ↦ subst (LawfulSession refuses q) (sym i) (new_lawful refuses q id b at small k.within)
            | inr n ↦ lawful-later refuses p q s (begun_later p new (Ok done)) (l.sessions s n)
          ];
          based = (is_based p.sessions b.scope.rep b.scope.base b.start done k.based, l.based);
          distinct = IsDistinct-cons eqb id.0 (session_numbers p.sessions) (fresh_number p.sessions id k.fresh) l.distinct;
        }
