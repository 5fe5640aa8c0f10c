-- The table of sessions: its lookups and writes, as contracts see them.
use Rattle.proof_prelude.proofs.{◌≡◌, ℕ, nat_lt, ◌==◌, ◌&&◌, ◌||◌, true, false, cond, if◌then◌else◌, Bool, List, [], ◌∷◌, ◌++◌, map, Option, Some, None, is_some, Result, Ok, Err, OnOk, OnErr, refl, sym, ap, ◌∙◌, subst, IsDistinct, option_map, keys_of, lookup, set_value, keys-set_value, set_value_same}
use Rattle.rev_core.specs.{RevId}
use Rattle.rev_tree.specs.{SessionId}
use Rattle.rev_tree.proofs.{none_of}
use Rattle.couch_base.specs.{Id, WindowValue}
use Rattle.range_front.specs.{low_water}
use Rattle.repl_log.specs.declared.replication.RepId.{RepId}
use Rattle.repl_log.specs.{at_session, IsKeyed, same_id, find-chosen, find-lookup, any-lookup, newest_first-set, newest_first-push, IsKeyed-set, IsKeyed-push, same_rep}
use Rattle.repl_peer.specs.{SessionValue, is_of, session_in, holds, with_session, in_ledger, base_in, base_answer, on_base, goal_answer, start_answer, append_in, with_window, recorded_at, IndexesMore, sessions_of, Indexes, IsTableOf, in_ledgers, with_changed, changed, recorded_of, recorded_by, begin_in, TargetFault, LedgerIndex, Beginning}
use Rattle.repl_peer.specs.declared.fault.TargetFault.TheVariants as faults
use Rattle.repl_peer.proofs.lemmas.peer.LaterPeers.{session_found}
use Rattle.repl_peer.proofs.lemmas.session.SettlingPeers.{same_ledgers, index_after}

abbrev pub Entries : Type 0
Entries = List (SessionId × SessionValue)

abbrev pub itself : SessionValue → SessionValue
itself s = s

abbrev pub id_of : SessionValue → SessionId
id_of s = s.id

mapped_itself : (o : Option SessionValue) → option_map itself o ≡ o
mapped_itself None = refl
mapped_itself (Some s) = refl

-- the session at an id, if it is of the replication
abbrev based_on : RepId → Option SessionValue → Option SessionValue
based_on rep None = None
based_on rep (Some s) = if same_rep s.rep rep then Some s else None

-- a session with another's id, replication and ledger
pub record IsSame (s t : SessionValue) : Type 0 where
  pub id : t.id ≡ s.id
  pub rep : t.rep ≡ s.rep
  pub ledger : t.ledger ≡ s.ledger

window_same : (w : WindowValue) (s : SessionValue) (answer : Result (Unit {0}) TargetFault) → IsSame s (with_window w s answer)
window_same w s (Ok done) = record { id = refl; rep = refl; ledger = refl }
window_same w s (Err fault) = record { id = refl; rep = refl; ledger = refl }

pub appended_same : (w : WindowValue) (s t : SessionValue) (r : Result (Unit {0}) TargetFault) → OnOk r (t ≡ with_window w s (append_in w s)) → OnErr r (t ≡ s) → IsSame s t
appended_same w s t (Ok done) made kept = subst (IsSame s) (sym made) (window_same w s (append_in w s))
appended_same w s t (Err fault) made kept = subst (IsSame s) (sym kept) (record { id = refl; rep = refl; ledger = refl })

pub concluded_same : (at : ℕ) (s t : SessionValue) → t ≡ (if low_water s.front == s.goal then recorded_at at s else s) → IsSame s t
concluded_same at s t made =
    subst (IsSame s) (sym made)
    (elim (low_water s.front == s.goal) as (λ b. IsSame s (cond b (recorded_at at s) s)) [ true ↦ record { id = refl; rep = refl; ledger = refl } | false ↦ record { id = refl; rep = refl; ledger = refl } ])

module _ (ledgered : LedgerIndex) (es : Entries) (stored : IsTableOf ledgered es) (id : SessionId) where
  -- ---- lookups

  -- the session with an id is the one that the table has there
  pub session_in-lookup : session_in (sessions_of es) id ≡ lookup (at_session id) es
  session_in-lookup = find-lookup itself id_of id es stored.keyed stored.once ∙ mapped_itself (lookup (at_session id) es)

  pub session_in-at : (o : Option SessionValue) → lookup (at_session id) es ≡ o → session_in (sessions_of es) id ≡ o
  session_in-at o is = session_in-lookup ∙ is

  pub holds-lookup : holds (sessions_of es) id ≡ is_some (lookup (at_session id) es)
  holds-lookup = any-lookup itself id_of id es stored.keyed stored.once

  pub absent-not_held : holds (sessions_of es) id ≡ false → lookup (at_session id) es ≡ None
  absent-not_held none = none_of (lookup (at_session id) es) (sym holds-lookup ∙ none)

  -- a base is the session with its id, if that is of the replication
  chosen-based : (rep : RepId) (o : Option SessionValue) → lookup (at_session id) es ≡ o → base_in (sessions_of es) rep id ≡ based_on rep o
  chosen-based rep None is =
      find-chosen itself id_of (λ s. same_rep s.rep rep) (λ s. is_of id s && same_rep s.rep rep) id (λ s. refl) es stored.keyed stored.once ∙ (rw is refl)
  chosen-based rep (Some s) is =
      find-chosen itself id_of (λ s. same_rep s.rep rep) (λ s. is_of id s && same_rep s.rep rep) id (λ s. refl) es stored.keyed stored.once ∙ (rw is refl)

  pub recorded_by-at : (rep : RepId) (o : Option SessionValue) → lookup (at_session id) es ≡ o → recorded_by (sessions_of es) rep (Some id) ≡ recorded_of (based_on rep o)
  recorded_by-at rep o is = ap recorded_of (chosen-based rep o is)

  pub recorded_by-found : (rep : RepId) (s : SessionValue) → lookup (at_session id) es ≡ Some s → same_rep s.rep rep ≡ true → recorded_by (sessions_of es) rep (Some id) ≡ Ok s.recorded
  recorded_by-found rep s is same = recorded_by-at rep (Some s) is ∙ ap (λ b. recorded_of (cond b (Some s) None)) same

  pub recorded_by-other : (rep : RepId) (s : SessionValue) → lookup (at_session id) es ≡ Some s → same_rep s.rep rep ≡ false → recorded_by (sessions_of es) rep (Some id) ≡ Err faults.NoSuchBase
  recorded_by-other rep s is other = recorded_by-at rep (Some s) is ∙ ap (λ b. recorded_of (cond b (Some s) None)) other

  -- ---- a new session

  pub sessions_of-new : (s : SessionValue) → sessions_of (es ++ (id, s) ∷ []) ≡ s ∷ sessions_of es
  sessions_of-new s = newest_first-push itself id_of id s es

  pub Stored-new : (new : Entries) (s : SessionValue) → new ≡ es ++ (id, s) ∷ [] → IsDistinct at_session (keys_of new) → s.id ≡ id → s.ledger ≡ [] → IsTableOf ledgered new
  Stored-new new s is once own none = record {
    once = once;
    keyed = subst (IsKeyed id_of) (sym is) (IsKeyed-push itself id_of id s es stored.keyed own);
    index = λ doc r. stored.index doc r ∙ ap (λ l. in_ledger l doc r || in_ledgers (sessions_of es) doc r) (sym none) ∙ ap (λ ss. in_ledgers ss doc r) (sym (ap sessions_of is ∙ sessions_of-new s));
  }

  -- ---- a write at the id of the session

  module _ (s t : SessionValue) (is : lookup (at_session id) es ≡ Some s) where
    found : session_in (sessions_of es) id ≡ Some s
    found = session_in-at (Some s) is

    own : s.id ≡ id
    own = same_id s.id id (session_found (sessions_of es) id s found).1

    put_back : (x : SessionValue) → x.id ≡ s.id → sessions_of (set_value (at_session id) es x) ≡ with_session (sessions_of es) x
    put_back x same =
        newest_first-set itself id_of id x es stored.keyed stored.once
        ∙ ap (λ (j : SessionId). map (λ (y : SessionValue). cond (is_of j y) x y) (sessions_of es)) (sym (same ∙ own))

    -- writing back the session changes nothing
    pub with_session-same : with_session (sessions_of es) s ≡ sessions_of es
    with_session-same = sym (put_back s refl) ∙ ap sessions_of (set_value_same (at_session id) es s is)

    pub sessions_of-set : t.id ≡ s.id → sessions_of (set_value (at_session id) es t) ≡ with_session (sessions_of es) t
    sessions_of-set same = put_back t same

    pub sessions_of-same : t ≡ s → sessions_of (set_value (at_session id) es t) ≡ sessions_of es
    sessions_of-same same = put_back t (ap id_of same) ∙ ap (with_session (sessions_of es)) same ∙ with_session-same

    pub sessions_of-changed : (change : SessionValue → SessionValue) → t.id ≡ s.id → t ≡ change s → sessions_of (set_value (at_session id) es t) ≡ with_changed (sessions_of es) id change
    sessions_of-changed change same made =
        put_back t same ∙ ap (with_session (sessions_of es)) made ∙ ap (changed change (sessions_of es)) (sym found)

    written : (new : LedgerIndex) → t.id ≡ s.id → Indexes new (with_session (sessions_of es) t) → IsTableOf new (set_value (at_session id) es t)
    written new same index = record {
      once = subst (IsDistinct at_session) (sym (keys-set_value (at_session id) es t)) stored.once;
      keyed = IsKeyed-set itself id_of id t es stored.keyed (same ∙ own);
      index = λ doc r. index doc r ∙ ap (λ ss. in_ledgers ss doc r) (sym (put_back t same));
    }

    -- a write that keeps the ledger
    pub Stored-same : (new : Entries) → new ≡ set_value (at_session id) es t → IsSame s t → IsTableOf ledgered new
    Stored-same new set same =
        subst (IsTableOf ledgered) (sym set)
        (written ledgered same.id (λ doc r.
        stored.index doc r ∙ ap (λ ss. in_ledgers ss doc r) (sym with_session-same) ∙ sym (same_ledgers (sessions_of es) s t doc r same.id same.ledger)))

    -- a write that adds to the ledger
    pub Stored-more : (new : LedgerIndex) → t.id ≡ s.id → ((doc : Id) (r : RevId) → in_ledger s.ledger doc r ≡ true → in_ledger t.ledger doc r ≡ true)
        → ((base : LedgerIndex) → IndexesMore base s.ledger ledgered → IndexesMore base t.ledger new) → IsTableOf new (set_value (at_session id) es t)
    Stored-more new same more indexed =
        written new same (index_after (sessions_of es) ledgered new s t stored.index with_session-same (session_found (sessions_of es) id s found).0 same more (indexed ledgered))

  pub sessions_of-absent : (change : SessionValue → SessionValue) → lookup (at_session id) es ≡ None → sessions_of es ≡ with_changed (sessions_of es) id change
  sessions_of-absent change is = ap (changed change (sessions_of es)) (sym (session_in-at None is))

-- ---- beginning, by the recorded sequence of the base

abbrev started : ℕ → Result ℕ TargetFault → Result (Unit {0}) TargetFault
started start (Ok recorded) = start_answer start recorded
started start (Err fault) = Err fault

started-on_base : (start : ℕ) (o : Option SessionValue) → on_base start o ≡ started start (recorded_of o)
started-on_base start None = refl
started-on_base start (Some s) = refl

started-base : (sessions : List SessionValue) (rep : RepId) (base : Option SessionId) (start : ℕ) → base_answer sessions rep base start ≡ started start (recorded_by sessions rep base)
started-base sessions rep None start = refl
started-base sessions rep (Some base) start = started-on_base start (base_in sessions rep base)

pub begin_in-started : (sessions : List SessionValue) (id : SessionId) (b : Beginning) (r : Result ℕ TargetFault) → holds sessions id ≡ false → r ≡ recorded_by sessions b.scope.rep b.scope.base
    → begin_in sessions id b ≡ goal_answer b.start b.scope.goal (started b.start r)
begin_in-started sessions id b r new is =
    ap (λ c. cond c (Err faults.SessionExists) (goal_answer b.start b.scope.goal (base_answer sessions b.scope.rep b.scope.base b.start))) new
    ∙ ap (goal_answer b.start b.scope.goal) (started-base sessions b.scope.rep b.scope.base b.start)
    ∙ ap (λ x. goal_answer b.start b.scope.goal (started b.start x)) (sym is)

pub begin_in-exists : (sessions : List SessionValue) (id : SessionId) (b : Beginning) → holds sessions id ≡ true → Err faults.SessionExists ≡ begin_in sessions id b
begin_in-exists sessions id b there =
    ap (λ c. cond c (Err faults.SessionExists) (goal_answer b.start b.scope.goal (base_answer sessions b.scope.rep b.scope.base b.start))) (sym there)

-- the result for a base and a goal, by the two tests
abbrev started_at : ℕ → Bool → Bool → Result (Unit {0}) TargetFault
started_at recorded above below = if above then Err (faults.StartAboveBase recorded) else (if below then Err faults.GoalBelowStart else Ok tt)

pub begin_in-told : (sessions : List SessionValue) (id : SessionId) (b : Beginning) (recorded : ℕ) (above below : Bool) → holds sessions id ≡ false → Ok recorded ≡ recorded_by sessions b.scope.rep b.scope.base → nat_lt recorded b.start ≡ above → nat_lt b.scope.goal b.start ≡ below
    → started_at recorded above below ≡ begin_in sessions id b
begin_in-told sessions id b recorded above below new is up down =
    (λ i. started_at recorded (sym up i) (sym down i)) ∙ by (nat_lt recorded b.start) ∙ sym (begin_in-started sessions id b (Ok recorded) new is)
  where
    by : (c : Bool) → started_at recorded c (nat_lt b.scope.goal b.start) ≡ goal_answer b.start b.scope.goal (cond c (Err (faults.StartAboveBase recorded)) (Ok tt))
    by true = refl
    by false = refl

-- only a new session begins
new_at : (b : Bool) (r : Result (Unit {0}) TargetFault) → Ok tt ≡ cond b (Err faults.SessionExists) r → b ≡ false
new_at true r told = cc
new_at false r told = refl

pub begin_in-new : (sessions : List SessionValue) (id : SessionId) (b : Beginning) → Ok tt ≡ begin_in sessions id b → holds sessions id ≡ false
begin_in-new sessions id b told = new_at (holds sessions id) _ told
