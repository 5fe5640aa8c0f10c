-- Lemmas about logs, for dependent crates. docs/PROFILE.md, "Replication ids and logs" and "Common checkpoint",
-- specifies logs.
use Rattle.std.proofs.Common.{◌≡◌, ℕ, ◌+◌, ◌≤◌, drop, slice_get, true, false, ◌||◌, nat_eq, eqb, cond, min, List, [], ◌∷◌, Option, Some, None, is_some, option_and_then, refl, sym, ap, ◌∙◌, subst, arith}
use Rattle.std.specs.List.{list_any, IsDistinct, AllByRecursion}
use Rattle.std.specs.Option.{option_map}
use Rattle.std.proofs.lemmas.Bool.{cond-true, cond-false, eqb-true, eq-eqb, ne_eqb, eqb-false, or_parts, or_from, both_ways, false≢true}
use Rattle.std.proofs.lemmas.List.{at_drop_more}
use Rattle.std.proofs.lemmas.Option.{same_Some, slice_get_within, get_or_from_slice_get}
use Rattle.rev_tree.specs.declared.origin.SessionId.{SessionId}
use Rattle.repl_log.specs.Entry.{EntryValue, IsSound}
use Rattle.repl_log.specs.Log.{is_of, holds, entry_for, recorded_of, replaced, with_entry, shared, lesser_of, checkpoint_at, common, session_numbers, IsLog, ChangesOnly, IsCommon, IsUnshared}

-- ---- entries of sessions

pub is_of-own : (e : EntryValue) → is_of e.session e ≡ true
is_of-own e = eq-eqb e.session.0 e.session.0 refl

pub session-is_of : (e : EntryValue) (s : SessionId) → is_of s e ≡ true → e.session ≡ s
session-is_of e s h = let same = eqb-true e.session.0 s.0 h in λ i. record { 0 = same i }

pub is_some-entry_for : (log : List EntryValue) (s : SessionId) → is_some (entry_for log s) ≡ holds log s
is_some-entry_for [] s = refl
is_some-entry_for (x ∷ log) s =
    elim (is_of s x) as (λ b. is_some (cond b (Some x) (entry_for log s)) ≡ (b || holds log s)) [
      | true ↦ refl
      | false ↦ is_some-entry_for log s
    ]

-- ---- the effect of `put`

other_session : (e x : EntryValue) (s : SessionId) → is_of s e ≡ false → is_of e.session x ≡ true → is_of s x ≡ false
other_session e x s other own = ap (λ n. eqb n s.0) (eqb-true x.session.0 e.session.0 own) ∙ other

entry_for-replaced_other : (log : List EntryValue) (e : EntryValue) (s : SessionId) → is_of s e ≡ false → entry_for (replaced log e) s ≡ entry_for log s
entry_for-replaced_other [] e s other = refl
entry_for-replaced_other (x ∷ log) e s other =
    elim (is_of e.session x) as (λ b. is_of e.session x ≡ b → cond (is_of s (cond b e x)) (Some (cond b e x)) (entry_for (replaced log e) s) ≡ cond (is_of s x) (Some x) (entry_for log s)) [
      | true ↦
          λ own.
          cond-false (is_of s e) (Some e) (entry_for (replaced log e) s) other ∙ entry_for-replaced_other log e s other
          ∙ sym (cond-false (is_of s x) (Some x) (entry_for log s) (other_session e x s other own))
      | false ↦ λ own. ap (cond (is_of s x) (Some x)) (entry_for-replaced_other log e s other)
    ] refl

entry_for-replaced_own : (log : List EntryValue) (e : EntryValue) → holds log e.session ≡ true → entry_for (replaced log e) e.session ≡ Some e
entry_for-replaced_own [] e held = absurd (false≢true held)
entry_for-replaced_own (x ∷ log) e held =
    elim (is_of e.session x) as (λ b. is_of e.session x ≡ b → (b || holds log e.session) ≡ true → cond (is_of e.session (cond b e x)) (Some (cond b e x)) (entry_for (replaced log e) e.session) ≡ Some e) [
      | true ↦ λ own within. cond-true (is_of e.session e) (Some e) (entry_for (replaced log e) e.session) (is_of-own e)
      | false ↦ λ own within. cond-false (is_of e.session x) (Some x) (entry_for (replaced log e) e.session) own ∙ entry_for-replaced_own log e within
    ] refl held

entry_for-replaced : (log : List EntryValue) (e : EntryValue) (s : SessionId) → holds log e.session ≡ true → entry_for (replaced log e) s ≡ cond (is_of s e) (Some e) (entry_for log s)
entry_for-replaced log e s held =
    elim (is_of s e) as (λ b. is_of s e ≡ b → entry_for (replaced log e) s ≡ cond b (Some e) (entry_for log s)) [
      | true ↦ λ own. ap (entry_for (replaced log e)) (sym (session-is_of e s own)) ∙ entry_for-replaced_own log e held
      | false ↦ λ other. entry_for-replaced_other log e s other
    ] refl

-- After a put of entry e, the log has e for e's session, and the old log's entry for every other session.
pub ChangesOnly-with_entry : (log : List EntryValue) (e : EntryValue) → ChangesOnly log (with_entry log e) e
ChangesOnly-with_entry log e s =
    elim (holds log e.session) as (λ b. holds log e.session ≡ b → entry_for (cond b (replaced log e) (e ∷ log)) s ≡ cond (is_of s e) (Some e) (entry_for log s)) [
      | true ↦ λ held. entry_for-replaced log e s held
      | false ↦ λ fresh. refl
    ] refl

pub session_numbers-replaced : (log : List EntryValue) (e : EntryValue) → session_numbers (replaced log e) ≡ session_numbers log
session_numbers-replaced [] e = refl
session_numbers-replaced (x ∷ log) e =
    elim (is_of e.session x) as (λ b. is_of e.session x ≡ b → (cond b e x).session.0 ∷ session_numbers (replaced log e) ≡ x.session.0 ∷ session_numbers log) [
      | true ↦ λ own. let same = eqb-true x.session.0 e.session.0 own in λ i. sym same i ∷ session_numbers-replaced log e i
      | false ↦ λ other. ap (λ ns. x.session.0 ∷ ns) (session_numbers-replaced log e)
    ] refl

-- ---- the invariant is kept

pub IsLog-nothing : IsLog []
unfolding IsDistinct
IsLog-nothing = record { distinct = tt; sound = tt }

fresh_number : (log : List EntryValue) (e : EntryValue) → holds log e.session ≡ false → AllByRecursion (λ n. nat_eq e.session.0 n ≡ false) (session_numbers log)
fresh_number [] e fresh = tt
fresh_number (x ∷ log) e fresh =
    let parts = or_parts (is_of e.session x) (holds log e.session) fresh in
    (ne_eqb e.session.0 x.session.0 (λ same. eqb-false x.session.0 e.session.0 parts.0 (sym same)), fresh_number log e parts.1)

sound-replaced : (log : List EntryValue) (e : EntryValue) → AllByRecursion IsSound log → IsSound e → AllByRecursion IsSound (replaced log e)
sound-replaced [] e sound own = tt
sound-replaced (x ∷ log) e sound own =
    (elim (is_of e.session x) as (λ b. IsSound (cond b e x)) [ true ↦ own | false ↦ sound.0 ], sound-replaced log e sound.1 own)

pub IsLog-with_entry : (log : List EntryValue) (e : EntryValue) → IsLog log → IsSound e → IsLog (with_entry log e)
unfolding IsDistinct
IsLog-with_entry log e law own =
    elim (holds log e.session) as (λ b. holds log e.session ≡ b → IsLog (cond b (replaced log e) (e ∷ log))) [
      | true ↦ λ held. record { distinct = subst (IsDistinct nat_eq) (sym (session_numbers-replaced log e)) law.distinct; sound = sound-replaced log e law.sound own }
      | false ↦ λ fresh. record { distinct = (fresh_number log e fresh, law.distinct); sound = (own, law.sound) }
    ] refl

-- ---- the common checkpoint

at_head : (source target : List EntryValue) (t : EntryValue) (c : SessionId × ℕ) (found : Option EntryValue) → entry_for source t.session ≡ found → option_map (lesser_of t) found ≡ Some c → IsCommon source (t ∷ target) c.0 c.1
at_head source target t c None is h = cc h
at_head source target t c (Some s) is h =
    let same : lesser_of t s ≡ c = same_Some (lesser_of t s) c h in
    subst (λ (d : SessionId × ℕ). IsCommon source (t ∷ target) d.0 d.1) same
    (record {
      newer = [];
      older = target;
      at_target = t;
      at_source = s;
      target_is = refl;
      none_newer = refl;
      target_has = cond-true (is_of t.session t) (Some t) (entry_for target t.session) (is_of-own t);
      source_has = is;
      lesser = refl;
    })

passed : (source : List EntryValue) (t : EntryValue) (s : SessionId) → holds source t.session ≡ false → holds source s ≡ true → is_of s t ≡ false
passed source t s not_held held =
    ne_eqb t.session.0 s.0 (λ same. both_ways (holds source t.session) not_held (ap (λ n. holds source (record { 0 = n })) same ∙ held))

later : (source target : List EntryValue) (t : EntryValue) (s : SessionId) (n : ℕ) → holds source t.session ≡ false → IsCommon source target s n → IsCommon source (t ∷ target) s n
later source target t s n not_held c =
    let held : holds source s ≡ true = sym (is_some-entry_for source s) ∙ ap is_some c.source_has in
    record {
      newer = t ∷ c.newer;
      older = c.older;
      at_target = c.at_target;
      at_source = c.at_source;
      target_is = ap (λ (es : List EntryValue). t ∷ es) c.target_is;
      none_newer = or_from (holds source t.session) (list_any (λ e. holds source e.session) c.newer) not_held c.none_newer;
      target_has = cond-false (is_of s t) (Some t) (entry_for target s) (passed source t s not_held held) ∙ c.target_has;
      source_has = c.source_has;
      lesser = c.lesser;
    }

-- A checkpoint that `common` returns satisfies `IsCommon`.
pub common-IsCommon : (source target : List EntryValue) (c : SessionId × ℕ) → common source target ≡ Some c → IsCommon source target c.0 c.1
common-IsCommon source [] c h = cc h
common-IsCommon source (t ∷ target) c h =
    elim (holds source t.session) as (λ b. holds source t.session ≡ b → option_and_then (checkpoint_at source) (cond b (Some t) (shared source target)) ≡ Some c → IsCommon source (t ∷ target) c.0 c.1) [
      | true ↦ λ held found. at_head source target t c (entry_for source t.session) refl found
      | false ↦ λ not_held found. later source target t c.0 c.1 not_held (common-IsCommon source target c found)
    ] refl h

-- For the session of a common checkpoint, the source's log and the target's log each record at least the checkpoint's
-- sequence.
pub common-le : (source target : List EntryValue) (s : SessionId) (n : ℕ) (c : IsCommon source target s n) → (n ≤ c.at_source.recorded) × (n ≤ c.at_target.recorded)
common-le source target s n c = let lesser = c.lesser in (omega arith, omega arith)

checkpoint_at-held : (source : List EntryValue) (t : EntryValue) → is_some (checkpoint_at source t) ≡ holds source t.session
checkpoint_at-held source t =
    elim (entry_for source t.session) as (λ (o : Option EntryValue). is_some (option_map (lesser_of t) o) ≡ is_some o) [
      | Some s ↦ refl
      | None ↦ refl
    ] ∙ is_some-entry_for source t.session

-- Two logs have a common checkpoint exactly if some session is in both logs.
pub is_some-common : (source target : List EntryValue) → is_some (common source target) ≡ list_any (λ t. holds source t.session) target
is_some-common source [] = refl
is_some-common source (t ∷ target) =
    elim (holds source t.session) as (λ b. holds source t.session ≡ b → is_some (option_and_then (checkpoint_at source) (cond b (Some t) (shared source target))) ≡ (b || list_any (λ e. holds source e.session) target)) [
      | true ↦ λ held. checkpoint_at-held source t ∙ held
      | false ↦ λ not_held. is_some-common source target
    ] refl

pub common-none : (source target : List EntryValue) → common source target ≡ None → IsUnshared source target
common-none source target h = sym (is_some-common source target) ∙ ap is_some h

-- ---- the target's newest session

common-here : (source log : List EntryValue) (t : EntryValue) (found : Option EntryValue) (recorded : ℕ) → entry_for source t.session ≡ found → option_map (λ (e : EntryValue). e.recorded) found ≡ Some recorded → common source (t ∷ log) ≡ Some (t.session, min recorded t.recorded)
common-here source log t None recorded is h = cc h
common-here source log t (Some s) recorded is h =
    ap (option_and_then (checkpoint_at source)) (cond-true (holds source t.session) (Some t) (shared source log) (sym (is_some-entry_for source t.session) ∙ ap is_some is))
    ∙ ap (option_map (lesser_of t)) is
    ∙ ap (λ n. Some (t.session, min n t.recorded)) (same_Some s.recorded recorded h)

common-shared : (source log : List EntryValue) (t : EntryValue) (recorded : ℕ) → recorded_of source t.session ≡ Some recorded → common source (t ∷ log) ≡ Some (t.session, min recorded t.recorded)
common-shared source log t recorded h = common-here source log t (entry_for source t.session) recorded refl h

none_recorded : (found : Option EntryValue) → option_map (λ (e : EntryValue). e.recorded) found ≡ None → is_some found ≡ false
none_recorded None h = refl
none_recorded (Some s) h = cc h

common-passed : (source log : List EntryValue) (t : EntryValue) → recorded_of source t.session ≡ None → common source (t ∷ log) ≡ common source log
common-passed source log t h =
    ap (option_and_then (checkpoint_at source)) (cond-false (holds source t.session) (Some t) (shared source log) (sym (is_some-entry_for source t.session) ∙ none_recorded (entry_for source t.session) h))

-- ---- scanning the target's log

turned : (source target : List EntryValue) (i : ℕ) (x : EntryValue) → slice_get target i ≡ Some x → common source (drop i target) ≡ common source (x ∷ drop (i + 1) target)
turned source target i x is =
    at_drop_more (λ (rest : List EntryValue). common source rest) target i x (slice_get_within target i x is)
    ∙ ap (λ (y : EntryValue). common source (y ∷ drop (i + 1) target)) (get_or_from_slice_get target i x x is)

-- The target's entry at index i determines the common checkpoint if no earlier entry affects the checkpoint and the
-- source's log has the entry's session. The common checkpoint has the session of the entry that determines the
-- checkpoint. The checkpoint's sequence is the lesser of the session's recorded sequences in the logs of source and
-- target.
pub common-at : (source target : List EntryValue) (i recorded : ℕ) (x : EntryValue) → common source target ≡ common source (drop i target) → slice_get target i ≡ Some x → recorded_of source x.session ≡ Some recorded
    → common source target ≡ Some (x.session, min recorded x.recorded)
common-at source target i recorded x so_far is held = so_far ∙ turned source target i x is ∙ common-shared source (drop (i + 1) target) x recorded held

-- Suppose that the target's first i entries do not affect the common checkpoint. If the source's log lacks the session
-- of the next entry (at index i), the next entry does not affect the checkpoint.
pub common-behind : (source target : List EntryValue) (i : ℕ) (x : EntryValue) → common source target ≡ common source (drop i target) → slice_get target i ≡ Some x → recorded_of source x.session ≡ None
    → common source target ≡ common source (drop (i + 1) target)
common-behind source target i x so_far is none = so_far ∙ turned source target i x is ∙ common-passed source (drop (i + 1) target) x none
