use Rattle.proof_prelude.proofs.{◌∷◌, ◌++◌, [], List, ℕ, length, map, sym, ap, subst, ◌∙◌, arith}
use Rattle.output_parser.specs.{IsEntry, Logged, logged}
use Rattle.output_parser.proofs.{none_at, some_at, ReadsEntries, entries_all, entries_more, entries_none, entries_unclosed, entry_shorter, none_at_all, one_entry}
use Rattle.output_parser.proofs.logs.read_entries.Goals as goal

pub returns-in_default-clause-none : goal.returns-in_default-clause-none
returns-in_default-clause-none c =
    λ es h.
    let text = c.args.text.now in
    none_at_all text es
    (none_at c.in_ok-first.field-0 ((e : Logged) (after : List ℕ) → IsEntry e after text → ⊥) c.in_default.is c.in_ok-first.ensures.none) h

pub loop-begins-init : goal.loop-begins-init
loop-begins-init c =
    let text = c.args.text.now in
    let read = some_at c.in_ok-first.field-0 (λ x. IsEntry (logged x.0) x.1.now text) (c.in-Some.first, c.in-Some.rest) c.in-Some.is c.in_ok-first.ensures.some in
    subst (λ es. ReadsEntries text c.in-Some.rest.now (map logged es)) (sym (c.in_ok-push.ensures.items ∙ ap (λ xs. xs ++ c.in-Some.first ∷ []) c.new-entries.ensures.items))
    (one_entry text c.in-Some.rest.now (logged c.in-Some.first) read)

pub returns-in_default-2-clause-none : goal.returns-in_default-2-clause-none
returns-in_default-2-clause-none c =
    λ es h.
    let begins = c.in-Some-behind.begins.now in
    entries_none c.args.text.now c.loop-begins.rest.now begins (map logged c.loop-begins.entries.items) es c.loop-begins.invariant
    c.in-Some-behind.ensures.some
    (none_at c.in_ok-entry.field-0 ((e : Logged) (after : List ℕ) → IsEntry e after begins → ⊥) c.in_default-2.is c.in_ok-entry.ensures.none) h

pub loop-begins-smaller : goal.loop-begins-smaller
loop-begins-smaller c =
    let begins = c.in-Some-behind.begins.now in
    let read = some_at c.in_ok-entry.field-0 (λ x. IsEntry (logged x.0) x.1.now begins) (c.in-Some-2.entry, c.in-Some-2.after) c.in-Some-2.is c.in_ok-entry.ensures.some in
    let s = entry_shorter (logged c.in-Some-2.entry) c.in-Some-2.after.now begins read in
    let t = ap length c.in-Some-behind.ensures.some in
    omega (arith, s, t)

pub loop-begins-preserved : goal.loop-begins-preserved
loop-begins-preserved c =
    let begins = c.in-Some-behind.begins.now in
    let read = some_at c.in_ok-entry.field-0 (λ x. IsEntry (logged x.0) x.1.now begins) (c.in-Some-2.entry, c.in-Some-2.after) c.in-Some-2.is c.in_ok-entry.ensures.some in
    entries_more c.args.text.now c.loop-begins.rest.now begins c.in-Some-2.after.now c.loop-begins.entries.items c.push-in-Some-behind.new.self.items
    c.in-Some-2.entry c.loop-begins.invariant c.in-Some-behind.ensures.some read c.in_ok-push-2.ensures.items

pub returns-in-Some-behind-2-clause-some : goal.returns-in-Some-behind-2-clause-some
returns-in-Some-behind-2-clause-some c =
    entries_all c.args.text.now c.loop-begins.rest.now c.in-Some-behind-2.field-0.now (map logged c.loop-begins.entries.items) c.loop-begins.invariant
    c.in-Some-behind-2.ensures.some

pub returns-in-None-clause-none : goal.returns-in-None-clause-none
returns-in-None-clause-none c =
    λ es h.
    entries_unclosed c.args.text.now c.loop-begins.rest.now (map logged c.loop-begins.entries.items) es c.loop-begins.invariant
    c.in_default-behind.ensures.none c.in-None.ensures.none h
