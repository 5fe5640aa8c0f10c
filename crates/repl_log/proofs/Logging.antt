-- The table of a log's sessions, and the log that contracts see.
use Rattle.proof_prelude.proofs.{◌≡◌, ◌<◌, ◌≤◌, nat_lt, false, List, ◌∷◌, ◌++◌, [], Option, Some, None, is_some, Ok, Err, refl, sym, ap, ◌∙◌, subst, option_map, lookup, set_value, cond-true, cond-false, le-ltb, lt-ltb}
use Rattle.indexmap.specs.IndexMap.{IndexMap, insert_entry}
use Rattle.indexmap.proofs.CallerLemmas.{insert_entry-new}
use Rattle.rev_tree.specs.{SessionId}
use Rattle.repl_log.specs.declared.entry.Entry.{Entry}
use Rattle.repl_log.specs.declared.fault.LogFault.TheVariants as faults
use Rattle.repl_log.specs.{EntryValue, IsSound, value_of, IsLog, holds, entry_for, replaced, recorded_of, with_entry, put_beside, put_answer, IsLog-with_entry, at_session, newest_first, IsKeyed, EachSessionOnce, insert_entry-present, find-lookup, any-lookup, newest_first-set, newest_first-push, IsKeyed-set, IsKeyed-push}

abbrev pub Entries : Type 0
Entries = List (SessionId × Entry)

abbrev pub logged : Entries → List EntryValue
logged es = newest_first value_of es

abbrev pub Keyed : Entries → Type 0
Keyed es = IsKeyed (λ (e : Entry). e.session) es

abbrev pub session_of : EntryValue → SessionId
session_of e = e.session

-- an entry satisfies its invariant
IsSound-value_of : (e : Entry) → IsSound (value_of e)
IsSound-value_of e = record { accounted = e.accounted; from_start = e.from_start }

pub entry_for-lookup : (es : Entries) (s : SessionId) → Keyed es → EachSessionOnce es → entry_for (logged es) s ≡ option_map value_of (lookup (at_session s) es)
entry_for-lookup es s keyed once = find-lookup value_of session_of s es keyed once

holds-lookup : (es : Entries) (s : SessionId) → Keyed es → EachSessionOnce es → holds (logged es) s ≡ is_some (lookup (at_session s) es)
holds-lookup es s keyed once = any-lookup value_of session_of s es keyed once

pub recorded_of-lookup : (es : Entries) (s : SessionId) → Keyed es → EachSessionOnce es → (o : Option Entry) → lookup (at_session s) es ≡ o → recorded_of (logged es) s ≡ option_map (λ (e : EntryValue). e.recorded) (option_map value_of o)
recorded_of-lookup es s keyed once o is = ap (option_map (λ (e : EntryValue). e.recorded)) (entry_for-lookup es s keyed once ∙ ap (option_map value_of) is)

-- ---- the result and effect of `put`, for an existing session

module _ (es : Entries) (e x : Entry) (keyed : Keyed es) (once : EachSessionOnce es) (is : lookup (at_session e.session) es ≡ Some x) where
  stored : entry_for (logged es) e.session ≡ Some (value_of x)
  stored = entry_for-lookup es e.session keyed once ∙ ap (option_map value_of) is

  pub put_answer-older : e.recorded < x.recorded → Err (faults.Older x.recorded) ≡ put_answer (logged es) (value_of e)
  put_answer-older less = sym (ap (put_beside (value_of e)) stored ∙ cond-true (nat_lt e.recorded x.recorded) (Err (faults.Older x.recorded)) (Ok tt) (lt-ltb e.recorded x.recorded less))

  pub put_answer-known : x.recorded ≤ e.recorded → Ok tt ≡ put_answer (logged es) (value_of e)
  put_answer-known enough = sym (ap (put_beside (value_of e)) stored ∙ cond-false (nat_lt e.recorded x.recorded) (Err (faults.Older x.recorded)) (Ok tt) (le-ltb e.recorded x.recorded enough))

  pub with_entry-known : logged (set_value (at_session e.session) es e) ≡ with_entry (logged es) (value_of e)
  with_entry-known =
      newest_first-set value_of session_of e.session e es keyed once
      ∙ sym (cond-true (holds (logged es) e.session) (replaced (logged es) (value_of e)) (value_of e ∷ logged es) (holds-lookup es e.session keyed once ∙ ap is_some is))

-- ---- the result and effect of `put`, for a new session

module _ (es : Entries) (e : Entry) (keyed : Keyed es) (once : EachSessionOnce es) (is : lookup (at_session e.session) es ≡ None) where
  pub not_held : holds (logged es) e.session ≡ false
  not_held = holds-lookup es e.session keyed once ∙ ap is_some is

  pub put_answer-new : Ok tt ≡ put_answer (logged es) (value_of e)
  put_answer-new = sym (ap (put_beside (value_of e)) (entry_for-lookup es e.session keyed once ∙ ap (option_map value_of) is))

  pub with_entry-new : logged (es ++ (e.session, e) ∷ []) ≡ with_entry (logged es) (value_of e)
  with_entry-new =
      newest_first-push value_of session_of e.session e es
      ∙ sym (cond-false (holds (logged es) e.session) (replaced (logged es) (value_of e)) (value_of e ∷ logged es) not_held)

-- ---- the invariant in both cases

abbrev pub Lawful : Entries → Type 0
Lawful es = IsLog (logged es) × Keyed es

pub Lawful-known : (es : Entries) (e x : Entry) → Lawful es → EachSessionOnce es → lookup (at_session e.session) es ≡ Some x → Lawful (set_value (at_session e.session) es e)
Lawful-known es e x law once is = (
  subst IsLog (sym (with_entry-known es e x law.1 once is)) (IsLog-with_entry (logged es) (value_of e) law.0 (IsSound-value_of e)),
  IsKeyed-set value_of session_of e.session e es law.1 refl,
)

pub Lawful-new : (es : Entries) (e : Entry) → Lawful es → EachSessionOnce es → lookup (at_session e.session) es ≡ None → Lawful (es ++ (e.session, e) ∷ [])
Lawful-new es e law once is = (
  subst IsLog (sym (with_entry-new es e law.1 once is)) (IsLog-with_entry (logged es) (value_of e) law.0 (IsSound-value_of e)),
  IsKeyed-push value_of session_of e.session e es law.1 refl,
)

-- ---- the effect of `set`, for an existing or new session

module _ {S : Type 0} (m : IndexMap SessionId Entry S) (e : Entry) (law : Lawful m.entries) (once : EachSessionOnce m.entries) where
  abbrev IsEntered : Entries → Type 0
  IsEntered es = Lawful es × (logged es ≡ with_entry (logged m.entries) (value_of e))

  by_found : (o : Option Entry) → lookup (at_session e.session) m.entries ≡ o → IsEntered (insert_entry at_session m.entries e.session e)
  by_found None is = subst IsEntered (sym (insert_entry-new at_session m e.session e is)) (Lawful-new m.entries e law once is, with_entry-new m.entries e law.1 once is)
  by_found (Some x) is = subst IsEntered (sym (insert_entry-present e.session m.entries e x is)) (Lawful-known m.entries e x law once is, with_entry-known m.entries e x law.1 once is)

  pub entered : IsEntered (insert_entry at_session m.entries e.session e)
  entered = by_found (lookup (at_session e.session) m.entries) refl
