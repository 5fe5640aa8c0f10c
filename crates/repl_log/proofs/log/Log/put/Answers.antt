use Rattle.proof_prelude.proofs.{◌≡◌, ◌∷◌, ◌++◌, [], Ok, Err, List, is_ok, sym, ap, ◌∙◌, subst, option_copied_mut, set_value, false≢true, err_from_is_err_and, set_value_same}
use Rattle.indexmap.specs.IndexMap.{insert_entry}
use Rattle.indexmap.proofs.CallerLemmas.{insert_entry-new}
use Rattle.repl_log.specs.declared.fault.LogFault.TheVariants as faults
use Rattle.repl_log.specs.{EntryValue, value_of, IsLog, with_entry, put_answer, ChangesOnly, ChangesOnly-with_entry, at_session}
use Rattle.repl_log.proofs.{Entries, logged, Lawful, Lawful-known, Lawful-new, put_answer-older, put_answer-known, put_answer-new, with_entry-known, with_entry-new, not_held}
use Rattle.repl_log.proofs.log.Log.put.Goals as goal

-- ---- the stored entry has a greater recorded sequence: nothing is written

same : (c : goal.After-self-then-stored-entry-1) → (c.get_mut.follows.lender c.in-Some.place.now).entries ≡ c.self.inside.entries.entries
same c =
    let is = sym c.get_mut.ensures.value ∙ ap option_copied_mut c.in-Some.is in
    (c.get_mut.follows.holds c.in-Some.place.now).0 ∙ set_value_same (at_session c.args.entry.session) c.self.inside.entries.entries c.in-Some.place.now is

older : (c : goal.After-self-then-stored-entry-1) → Err (faults.Older c.in-Some.place.now.recorded) ≡ put_answer c.args.self.now (value_of c.args.entry)
older c =
    let is = sym c.get_mut.ensures.value ∙ ap option_copied_mut c.in-Some.is in
    rw (← c.self.view_is) (put_answer-older c.self.inside.entries.entries c.args.entry c.in-Some.place.now c.self.invariant.1 c.get_mut.ensures.unique is c.if-stored-entry.true)

pub invariant_of-self : goal.invariant_of-self
invariant_of-self c = subst Lawful (sym (same c)) c.self.invariant

pub returns-then-stored-entry-clause-answer : goal.returns-then-stored-entry-clause-answer
returns-then-stored-entry-clause-answer c = older c

pub returns-then-stored-entry-clause-known : goal.returns-then-stored-entry-clause-known
returns-then-stored-entry-clause-known c = λ held. older c

pub returns-then-stored-entry-clause-err : goal.returns-then-stored-entry-clause-err
returns-then-stored-entry-clause-err c = rw (← c.self.view_is) (ap logged (same c))

pub returns-then-stored-entry-clause-log : goal.returns-then-stored-entry-clause-log
returns-then-stored-entry-clause-log c = subst (λ (es : Entries). IsLog (logged es)) (sym (same c)) c.self.invariant.0

-- ---- the entry replaces the stored one

set_there : (c : goal.After-self-in-Some-1) → (c.get_mut.follows.lender c.args.entry).entries ≡ set_value (at_session c.args.entry.session) c.self.inside.entries.entries c.args.entry
set_there c = (c.get_mut.follows.holds c.args.entry).0

known : (c : goal.After-self-in-Some-1) → Ok tt ≡ put_answer c.args.self.now (value_of c.args.entry)
known c =
    let is = sym c.get_mut.ensures.value ∙ ap option_copied_mut c.in-Some.is in
    rw (← c.self.view_is) (put_answer-known c.self.inside.entries.entries c.args.entry c.in-Some.place.now c.self.invariant.1 c.get_mut.ensures.unique is c.if-stored-entry.false)

kept : (c : goal.After-self-in-Some-1) → Lawful (c.get_mut.follows.lender c.args.entry).entries
kept c =
    let is = sym c.get_mut.ensures.value ∙ ap option_copied_mut c.in-Some.is in
    subst Lawful (sym (set_there c)) (Lawful-known c.self.inside.entries.entries c.args.entry c.in-Some.place.now c.self.invariant c.get_mut.ensures.unique is)

written : (c : goal.After-self-in-Some-1) → logged (c.get_mut.follows.lender c.args.entry).entries ≡ with_entry (logged c.self.inside.entries.entries) (value_of c.args.entry)
written c =
    let is = sym c.get_mut.ensures.value ∙ ap option_copied_mut c.in-Some.is in
    ap logged (set_there c) ∙ with_entry-known c.self.inside.entries.entries c.args.entry c.in-Some.place.now c.self.invariant.1 c.get_mut.ensures.unique is

pub invariant_of-self-in-Some : goal.invariant_of-self-in-Some
invariant_of-self-in-Some c = kept c

pub returns-else-stored-entry-clause-answer : goal.returns-else-stored-entry-clause-answer
returns-else-stored-entry-clause-answer c = known c

pub returns-else-stored-entry-clause-known : goal.returns-else-stored-entry-clause-known
returns-else-stored-entry-clause-known c = λ held. known c

pub returns-else-stored-entry-clause-ok : goal.returns-else-stored-entry-clause-ok
returns-else-stored-entry-clause-ok c = rw (← c.self.view_is) (written c)

pub returns-else-stored-entry-clause-changes : goal.returns-else-stored-entry-clause-changes
returns-else-stored-entry-clause-changes c =
    rw (← c.self.view_is) (subst (λ (log : List EntryValue). ChangesOnly (logged c.self.inside.entries.entries) log (value_of c.args.entry)) (sym (written c)) (ChangesOnly-with_entry (logged c.self.inside.entries.entries) (value_of c.args.entry)))

pub returns-else-stored-entry-clause-log : goal.returns-else-stored-entry-clause-log
returns-else-stored-entry-clause-log c = (kept c).0

-- ---- a new session

pub returns-in_err-insert-in-None-clause-answer : goal.returns-in_err-insert-in-None-clause-answer
returns-in_err-insert-in-None-clause-answer c =
    let is = sym c.get_mut.ensures.value ∙ ap option_copied_mut c.in-None.is in
    let refused = err_from_is_err_and c.from_residual.result c.from_residual.ensures.1 in
    rw (refused.1, refused.2, ← c.self.view_is) (ap is_ok (sym (put_answer-new c.self.inside.entries.entries c.args.entry c.self.invariant.1 c.get_mut.ensures.unique is)))

pub returns-in_err-insert-in-None-clause-known : goal.returns-in_err-insert-in-None-clause-known
returns-in_err-insert-in-None-clause-known c =
    let is = sym c.get_mut.ensures.value ∙ ap option_copied_mut c.in-None.is in
    let fresh = not_held c.self.inside.entries.entries c.args.entry c.self.invariant.1 c.get_mut.ensures.unique is in
    λ held. absurd (false≢true (sym (rw (← c.self.view_is) fresh) ∙ held))

pushed : (c : goal.In_ok-insert-in-None) → c.insert.new.self.entries ≡ c.self.inside.entries.entries ++ (c.args.entry.session, c.args.entry) ∷ []
pushed c =
    let is = sym c.get_mut.ensures.value ∙ ap option_copied_mut c.in-None.is in
    c.in_ok-insert-in-None.ensures.entries
    ∙ ap (λ m. insert_entry at_session m.entries c.args.entry.session c.args.entry) c.get_mut.follows.holds-at-none
    ∙ insert_entry-new at_session c.self.inside.entries c.args.entry.session c.args.entry is

new : (c : goal.In_ok-insert-in-None) → Ok tt ≡ put_answer c.args.self.now (value_of c.args.entry)
new c =
    let is = sym c.get_mut.ensures.value ∙ ap option_copied_mut c.in-None.is in
    rw (← c.self.view_is) (put_answer-new c.self.inside.entries.entries c.args.entry c.self.invariant.1 c.get_mut.ensures.unique is)

kept_new : (c : goal.In_ok-insert-in-None) → Lawful c.insert.new.self.entries
kept_new c =
    let is = sym c.get_mut.ensures.value ∙ ap option_copied_mut c.in-None.is in
    subst Lawful (sym (pushed c)) (Lawful-new c.self.inside.entries.entries c.args.entry c.self.invariant c.get_mut.ensures.unique is)

fronted : (c : goal.In_ok-insert-in-None) → logged c.insert.new.self.entries ≡ with_entry (logged c.self.inside.entries.entries) (value_of c.args.entry)
fronted c =
    let is = sym c.get_mut.ensures.value ∙ ap option_copied_mut c.in-None.is in
    ap logged (pushed c) ∙ with_entry-new c.self.inside.entries.entries c.args.entry c.self.invariant.1 c.get_mut.ensures.unique is

pub invariant_of-self-in-None : goal.invariant_of-self-in-None
invariant_of-self-in-None c = kept_new c

pub returns-in_ok-insert-in-None-clause-answer : goal.returns-in_ok-insert-in-None-clause-answer
returns-in_ok-insert-in-None-clause-answer c = new c

pub returns-in_ok-insert-in-None-clause-known : goal.returns-in_ok-insert-in-None-clause-known
returns-in_ok-insert-in-None-clause-known c = λ held. new c

pub returns-in_ok-insert-in-None-clause-ok : goal.returns-in_ok-insert-in-None-clause-ok
returns-in_ok-insert-in-None-clause-ok c = rw (← c.self.view_is) (fronted c)

pub returns-in_ok-insert-in-None-clause-changes : goal.returns-in_ok-insert-in-None-clause-changes
returns-in_ok-insert-in-None-clause-changes c =
    rw (← c.self.view_is) (subst (λ (log : List EntryValue). ChangesOnly (logged c.self.inside.entries.entries) log (value_of c.args.entry)) (sym (fronted c)) (ChangesOnly-with_entry (logged c.self.inside.entries.entries) (value_of c.args.entry)))

pub returns-in_ok-insert-in-None-clause-log : goal.returns-in_ok-insert-in-None-clause-log
returns-in_ok-insert-in-None-clause-log c = (kept_new c).0
