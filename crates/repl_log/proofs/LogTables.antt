-- The table of logs by replication: the effect of a put, and the content of a copy.
use Rattle.proof_prelude.proofs.{◌≡◌, ℕ, zero, suc, ◌+◌, Bool, true, false, cond, List, [], ◌∷◌, ◌++◌, take, Option, Some, None, Ok, refl, sym, ap, ◌∙◌, IsDistinct, AllByRecursion, keys_of, lookup, set_value, both_ways, false_from_ne_true, take_more, same_Some, slice_get_within, get_or_from_slice_get, slice_get}
use Rattle.indexmap.specs.IndexMap.{insert_entry}
use Rattle.indexmap.proofs.MapLemmas.{insert_entry-absent}
use Rattle.repl_log.specs.declared.replication.RepId.{RepId}
use Rattle.repl_log.specs.{EntryValue, with_entry, put_answer, same_rep, same_rep-is, same_rep-self, logs_with, put_answer_in, LogsValue, log_in-absent}

-- ---- a put

-- a put at an existing replication stores the entry
set_step : (b : Bool) (l : RepId × List EntryValue) (logs set with : LogsValue) (e : EntryValue) (log : List EntryValue) (o : Option (List EntryValue)) → (o ≡ Some log → set ≡ with) → cond b (Some l.1) o ≡ Some log
    → cond b ((l.0, with_entry log e) ∷ logs) (l ∷ set) ≡ cond b ((l.0, with_entry l.1 e) ∷ logs) (l ∷ with)
set_step true l logs set with e log o rest is = ap (λ g. (l.0, with_entry g e) ∷ logs) (sym (same_Some l.1 log is))
set_step false l logs set with e log o rest is = ap (λ ls. l ∷ ls) (rest is)

pub logs_with-set : (rep : RepId) (e : EntryValue) (logs : LogsValue) (log : List EntryValue) → lookup (same_rep rep) logs ≡ Some log → set_value (same_rep rep) logs (with_entry log e) ≡ logs_with logs rep e
logs_with-set rep e [] log is = cc
logs_with-set rep e (l ∷ logs) log is =
    set_step (same_rep rep l.0) l logs (set_value (same_rep rep) logs (with_entry log e)) (logs_with logs rep e) e log (lookup (same_rep rep) logs) (λ i. logs_with-set rep e logs log i) is

-- the log of a new replication is the last
new_step : (b : Bool) (l : RepId × List EntryValue) (logs pushed with : LogsValue) (e : EntryValue) (o : Option (List EntryValue)) → (o ≡ None → pushed ≡ with) → cond b (Some l.1) o ≡ None → l ∷ pushed ≡ cond b ((l.0, with_entry l.1 e) ∷ logs) (l ∷ with)
new_step true l logs pushed with e o rest is = cc
new_step false l logs pushed with e o rest is = ap (λ ls. l ∷ ls) (rest is)

pub logs_with-new : (rep : RepId) (e : EntryValue) (logs : LogsValue) → lookup (same_rep rep) logs ≡ None → logs ++ (rep, with_entry [] e) ∷ [] ≡ logs_with logs rep e
logs_with-new rep e [] is = refl
logs_with-new rep e (l ∷ logs) is =
    new_step (same_rep rep l.0) l logs (logs ++ (rep, with_entry [] e) ∷ []) (logs_with logs rep e) e (lookup (same_rep rep) logs) (λ i. logs_with-new rep e logs i) is

-- a new log accepts every entry
pub put_answer_in-new : (rep : RepId) (e : EntryValue) (logs : LogsValue) → lookup (same_rep rep) logs ≡ None → put_answer_in logs rep e ≡ Ok tt
put_answer_in-new rep e logs is = ap (λ g. put_answer g e) (log_in-absent rep logs is)

-- ---- a copy

differs : (rep : RepId) (es : LogsValue) (i : ℕ) (e : RepId × List EntryValue) → AllByRecursion (λ k. same_rep rep k ≡ false) (keys_of es) → slice_get es i ≡ Some e → same_rep e.0 rep ≡ false
differs rep [] i e none at = cc
differs rep (x ∷ es) zero e none at =
    let same : x ≡ e = same_Some x e at in
    let apart : same_rep rep e.0 ≡ false = ap (λ (y : RepId × List EntryValue). same_rep rep y.0) (sym same) ∙ none.0 in
    false_from_ne_true (same_rep e.0 rep) (λ h. both_ways _ apart (ap (same_rep rep) (same_rep-is e.0 rep h) ∙ same_rep-self rep))
differs rep (x ∷ es) (suc i) e none at = differs rep es i e none.1 at

-- no replication occurs twice, so the one at an index is not among the previous ones
absent_before : (es : LogsValue) (i : ℕ) (e : RepId × List EntryValue) → IsDistinct same_rep (keys_of es) → slice_get es i ≡ Some e → AllByRecursion (λ k. same_rep e.0 k ≡ false) (keys_of (take i es))
unfolding IsDistinct
absent_before [] zero e once at = tt
absent_before [] (suc i) e once at = tt
absent_before (x ∷ es) zero e once at = tt
absent_before (x ∷ es) (suc i) e once at = (differs x.0 es i e once.0 at, absent_before es i e once.1 at)

-- one more log is copied
pub copied_next : (es done now : LogsValue) (i : ℕ) (rep : RepId) (log : List EntryValue) (e : RepId × List EntryValue) → IsDistinct same_rep (keys_of es) → slice_get es i ≡ Some e → rep ≡ e.0 → log ≡ e.1 → done ≡ take i es → now ≡ insert_entry same_rep done rep log → now ≡ take (i + 1) es
copied_next es done now i rep log e once at reps logs so_far is =
    is
    ∙ (λ j. insert_entry same_rep (so_far j) (reps j) (logs j))
    ∙ insert_entry-absent same_rep e.0 e.1 (take i es) (absent_before es i e once at)
    ∙ ap (λ (x : RepId × List EntryValue). take i es ++ x ∷ []) (sym (get_or_from_slice_get es i e e at))
    ∙ sym (take_more es i e (slice_get_within es i e at))
