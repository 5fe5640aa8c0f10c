-- The log of a replication, from the table of sessions.
use Rattle.proof_prelude.proofs.{◌≡◌, ℕ, zero, suc, ◌+◌, ◌<◌, ◌≤◌, ◌==◌, ◌||◌, false, List, [], ◌∷◌, ◌++◌, map, filter, take, drop, length, Some, arith, refl, sym, ap, ◌∙◌, subst, list_any, IsDistinct, AllByRecursion, keys_of, cond_both, cond-false, take_all, take_more, slice_get_within, get_or_from_slice_get, reverse_onto, slice_get}
use Rattle.rev_tree.specs.{SessionId}
use Rattle.couch_base.specs.{some_is, none_some, none_append, both_false}
use Rattle.repl_log.specs.declared.replication.RepId.{RepId}
use Rattle.repl_log.specs.{EntryValue, holds, replaced, with_entry, same_rep, at_session, IsKeyed, EachSessionOnce, newest_first-push}
use Rattle.repl_peer.specs.{SessionValue, is_of, entry_of, sessions_of, log_of}
use Rattle.repl_peer.proofs.lemmas.session.SessionTable.{Entries, id_of, itself}

sessions_of-cons : (e : SessionId × SessionValue) (es : Entries) → sessions_of (e ∷ es) ≡ sessions_of es ++ e.1 ∷ []
sessions_of-cons e es = reverse_onto (map (λ (e : SessionId × SessionValue). e.1) es) (e.1) []

key_at : (P : SessionId → Type 0) (es : Entries) (i : ℕ) (x : SessionId × SessionValue) → AllByRecursion P (keys_of es) → slice_get es i ≡ Some x → P x.0
key_at P [] i x all is = absurd (none_some x is)
key_at P (e ∷ es) zero x all is = subst (λ (y : SessionId × SessionValue). P y.0) (some_is e x is) all.0
key_at P (e ∷ es) (suc i) x all is = key_at P es i x all.1 is

-- no earlier session has the number of a later one
none_before : (es : Entries) (i : ℕ) (x : SessionId × SessionValue) → IsKeyed id_of es → EachSessionOnce es → slice_get es i ≡ Some x → list_any (is_of x.0) (sessions_of (take i es)) ≡ false
unfolding IsDistinct
none_before [] i x keyed once is = absurd (none_some x is)
none_before (e ∷ es) zero x keyed once is = refl
none_before (e ∷ es) (suc i) x keyed once is =
    let other : (e.0.0 == x.0.0) ≡ false = key_at (λ k. at_session e.0 k ≡ false) es i x once.0 is in
    ap (list_any (is_of x.0)) (sessions_of-cons e (take i es))
    ∙ none_append (is_of x.0) (sessions_of (take i es)) (e.1 ∷ []) (none_before es i x keyed.1 once.1 is) (ap (λ (k : SessionId). (k.0 == x.0.0) || false) keyed.0 ∙ ap (λ b. b || false) other)

keyed_at : (es : Entries) (i : ℕ) (x : SessionId × SessionValue) → IsKeyed id_of es → slice_get es i ≡ Some x → x.1.id ≡ x.0
keyed_at [] i x keyed is = absurd (none_some x is)
keyed_at (e ∷ es) zero x keyed is = subst (λ (y : SessionId × SessionValue). y.1.id ≡ y.0) (some_is e x is) keyed.0
keyed_at (e ∷ es) (suc i) x keyed is = keyed_at es i x keyed.1 is

none_logged : (id : SessionId) (rep : RepId) (sessions : List SessionValue) → list_any (is_of id) sessions ≡ false → holds (log_of sessions rep) id ≡ false
none_logged id rep [] none = refl
none_logged id rep (s ∷ sessions) none =
    let parts = both_false (is_of id s) (list_any (is_of id) sessions) none in
    cond_both (same_rep s.rep rep) (s ∷ filter (λ s. same_rep s.rep rep) sessions) (filter (λ s. same_rep s.rep rep) sessions) (λ l. holds (map entry_of l) id ≡ false)
    (λ _. ap (λ b. b || holds (log_of sessions rep) id) parts.0 ∙ none_logged id rep sessions parts.1)
    (λ _. none_logged id rep sessions parts.1)

sessions_of-next : (es : Entries) (i : ℕ) (x : SessionId × SessionValue) → slice_get es i ≡ Some x → sessions_of (take (i + 1) es) ≡ x.1 ∷ sessions_of (take i es)
sessions_of-next es i x is =
    ap sessions_of (take_more es i x (slice_get_within es i x is) ∙ ap (λ (y : SessionId × SessionValue). take i es ++ y ∷ []) (get_or_from_slice_get es i x x is))
    ∙ newest_first-push itself id_of x.0 x.1 (take i es)

-- ---- the log, oldest session first

-- no session occurs twice in a log
abbrev pub IsOnce : List EntryValue → Type 0
IsOnce [] = Unit {0}
IsOnce (e ∷ log) = (holds log e.session ≡ false) × IsOnce log

once_next : (rep : RepId) (s : SessionValue) (sessions : List SessionValue) → list_any (is_of s.id) sessions ≡ false → IsOnce (log_of sessions rep) → IsOnce (log_of (s ∷ sessions) rep)
once_next rep s sessions new once =
    cond_both (same_rep s.rep rep) (s ∷ filter (λ s. same_rep s.rep rep) sessions) (filter (λ s. same_rep s.rep rep) sessions) (λ l. IsOnce (map entry_of l))
    (λ _. (none_logged s.id rep sessions new, once))
    (λ _. once)

at_index : (es : Entries) (i : ℕ) → i < length es → (x : SessionId × SessionValue) × (slice_get es i ≡ Some x)
at_index [] i low = absurd (omega arith)
at_index (e ∷ es) zero low = (e, refl)
at_index (e ∷ es) (suc i) low = at_index es i (omega arith)

none_yet : (es : Entries) (rep : RepId) → IsOnce (log_of (sessions_of (take 0 es)) rep)
none_yet [] rep = tt
none_yet (e ∷ es) rep = tt

once_upto : (es : Entries) (rep : RepId) (i : ℕ) → IsKeyed id_of es → EachSessionOnce es → i ≤ length es → IsOnce (log_of (sessions_of (take i es)) rep)
once_upto es rep zero keyed once low = none_yet es rep
once_upto es rep (suc i) keyed once low =
    let x = at_index es i (omega arith) in
    let more : i + 1 ≡ suc i = omega arith in
    let new : list_any (is_of x.0.1.id) (sessions_of (take i es)) ≡ false =
    subst (λ (k : SessionId). list_any (is_of k) (sessions_of (take i es)) ≡ false) (sym (keyed_at es i x.0 keyed x.1)) (none_before es i x.0 keyed once x.1) in
    subst (λ n. IsOnce (log_of (sessions_of (take n es)) rep)) more
    (subst (λ ss. IsOnce (log_of ss rep)) (sym (sessions_of-next es i x.0 x.1)) (once_next rep x.0.1 (sessions_of (take i es)) new (once_upto es rep i keyed once (omega arith))))

pub log_of-once : (es : Entries) (rep : RepId) → IsKeyed id_of es → EachSessionOnce es → IsOnce (log_of (sessions_of es) rep)
log_of-once es rep keyed once =
    subst (λ l. IsOnce (log_of (sessions_of l) rep)) (take_all (length es) es (omega arith)) (once_upto es rep (length es) keyed once (omega arith))

-- setting the entry before those set so far
pub set-before : (log : List EntryValue) (k : ℕ) (x : EntryValue) → IsOnce log → slice_get log k ≡ Some x → with_entry (drop (suc k) log) x ≡ drop k log
set-before [] k x once is = absurd (none_some x is)
set-before (e ∷ log) zero x once is =
    ap (with_entry log) (sym (some_is e x is)) ∙ cond-false (holds log e.session) (replaced log e) (e ∷ log) once.0
set-before (e ∷ log) (suc k) x once is = set-before log k x once.1 is
