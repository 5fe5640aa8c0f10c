-- The guarantees of a task, by those of its parser and its formatter.
use Rattle.proof_prelude.proofs.{◌≡◌, ◌⊎◌, inl, inr, ◌++◌, [], sym, ap, ◌∙◌, append-nil, unwrap_or, ℕ, List, Bool, OnOk, true, false, Option, Some, Result, Ok, Err, IfOk, IfErr, refl, subst, true≢false}
use Rattle.response_parser.specs.{wants_documents, is_strict, Piece, IsAnswered, IsChangeScript}
use Rattle.response_parser.specs.LineGrammar.{IsScript}
use Rattle.response_parser.specs.FeedGrammar.{AreLeaves}
use Rattle.response_parser.specs.declared.place.Wanted.{Wanted}
use Rattle.response_parser.specs.declared.place.Wanted.TheVariants.{Changes, Leaves as InFeed}
use Rattle.response_output.specs.Words.{Words}
use Rattle.response_output.specs.{Answered, Converts, Stopped, ReadsAnswers, AnswerFault}
use Rattle.response_output.specs.Runs.{CountsOf}
use Rattle.script_engine.specs.{IsFaultOf, ScriptFault}
use Rattle.diagrams.specs.declared.tally.Outcome.{Outcome}
use Rattle.response_output.proofs.{reads_answers, reads_changes, reads_leaves, reads_script}
use Rattle.couch_lines.specs.{IsDone, Makes, is_drawn, wanted_of, words_of_task, Task}
use Rattle.couch_lines.specs.Runs.{DrawnCounts, IfDone, RunCounts, RunsStandard, RunsWords}
use Rattle.couch_lines.specs.Status.{unflushed}
use Rattle.couch_lines.specs.declared.run.Ended.{Ended}
use Rattle.couch_lines.specs.declared.tasks.Task.TheVariants.{Load, Ids, Diff, Leaves, Bulk, Trees}

module _ (left held held' : Option (List ℕ)) (x : Result ℕ AnswerFault) where
  abbrev pub Ran : Wanted → Words → Type 0
  Ran w words = IfOk x (Answered w words left held held') × IfErr x (Stopped w words left held held')

  by_result : (y : Result ℕ AnswerFault) (w : Wanted) (words : Words) → IfOk y (Answered w words left held held') × IfErr y (Stopped w words left held held') → Converts y w words left held held'
  by_result (Ok passed) w words r = r.0
  by_result (Err fault) w words r = r.1

  abbrev pub Forms : Wanted → Words → Type 0
  Forms w words = (text : List ℕ) → (pieces : List Piece) → wants_documents w ≡ true → is_strict w ≡ false → left ≡ Some text → IsAnswered w text pieces → ReadsAnswers words pieces held held' x

  abbrev pub Scripts : Wanted → Words → Type 0
  Scripts w words = (text : List ℕ) → (pieces : List Piece) → wants_documents w ≡ true → is_strict w ≡ true → left ≡ Some text → IsScript w text pieces → ReadsAnswers words pieces held held' x

  abbrev pub Changing : Wanted → Words → Type 0
  Changing w words = (text : List ℕ) → (pieces : List Piece) → w ≡ Changes → left ≡ Some text → IsChangeScript text pieces → ReadsAnswers words pieces held held' x

  abbrev pub Feeding : Wanted → Words → Type 0
  Feeding w words = (text : List ℕ) → (pieces : List Piece) → w ≡ InFeed → left ≡ Some text → AreLeaves text pieces → ReadsAnswers words pieces held held' x

  pub is_done : (task : Task) (w : Wanted) (words : Words) → w ≡ wanted_of task → words ≡ words_of_task task → Ran w words → IsDone task left held held' x
  is_done task w words e f r = by_result x (wanted_of task) (words_of_task task) (subst (λ z. Ran (wanted_of task) z) f (subst (λ z. Ran z words) e r))

  makes_by : (task : Task) → is_drawn task ≡ false → Forms (wanted_of task) (words_of_task task) → Scripts (wanted_of task) (words_of_task task) → Changing (wanted_of task) (words_of_task task) → Feeding (wanted_of task) (words_of_task task) → Makes task left held held' x
  makes_by (Load db false) lines forms scripts changes feeds = λ text pieces l h. forms text pieces refl refl l h
  makes_by (Load db true) lines forms scripts changes feeds = λ text pieces l h. forms text pieces refl refl l h
  makes_by (Ids n) lines forms scripts changes feeds = λ text pieces l h. feeds text pieces refl l h
  makes_by (Diff n) lines forms scripts changes feeds = λ text pieces l h. feeds text pieces refl l h
  makes_by (Leaves db) lines forms scripts changes feeds = λ text pieces l h. changes text pieces refl l h
  makes_by (Bulk n false) lines forms scripts changes feeds = λ text pieces l h. scripts text pieces refl refl l h
  makes_by (Trees db svg) lines forms scripts changes feeds = absurd (true≢false lines)
  makes_by (Bulk n true) lines forms scripts changes feeds = λ text pieces l h. scripts text pieces refl refl l h

  pub makes : (task : Task) (w : Wanted) (words : Words) → is_drawn task ≡ false → w ≡ wanted_of task → words ≡ words_of_task task → Forms w words → Scripts w words → Changing w words → Feeding w words → Makes task left held held' x
  makes task w words lines e f forms scripts changes feeds =
      makes_by task lines (subst (λ z. Forms (wanted_of task) z) f (subst (λ z. Forms z words) e forms)) (subst (λ z. Scripts (wanted_of task) z) f (subst (λ z. Scripts z words) e scripts))
      (subst (λ z. Changing (wanted_of task) z) f (subst (λ z. Changing z words) e changes)) (subst (λ z. Feeding (wanted_of task) z) f (subst (λ z. Feeding z words) e feeds))

-- ---- a result by its two cases

pub drawn_counts : (r : Result Outcome ScriptFault) (n n' a a' b b' : ℕ) → OnOk r ((a' ≡ a) × (b' ≡ b)) → IfErr r (λ fault. IsFaultOf fault n n' a a' b b') → DrawnCounts r n n' a a' b b'
drawn_counts (Ok drawn) n n' a a' b b' ok err = ok
drawn_counts (Err fault) n n' a a' b b' ok err = err

pub run_counts : (r : Result ℕ AnswerFault) (n n' a a' b b' : ℕ) → OnOk r ((a' ≡ a) × (b' ≡ b)) → IfErr r (λ fault. CountsOf fault n n' a a' b b') → RunCounts r n n' a a' b b'
run_counts (Ok passed) n n' a a' b b' ok err = ok
run_counts (Err fault) n n' a a' b b' ok err = err

-- ---- for the bytes that the reads returned

if_answered : (x : Result ℕ AnswerFault) (w : Wanted) (words : Words) (left held held' : Option (List ℕ)) → Converts x w words left held held' → IfOk x (Answered w words left held held')
if_answered (Ok passed) w words left held held' h = h
if_answered (Err fault) w words left held held' h = tt

if_stopped : (x : Result ℕ AnswerFault) (w : Wanted) (words : Words) (left held held' : Option (List ℕ)) → Converts x w words left held held' → IfErr x (Stopped w words left held held')
if_stopped (Ok passed) w words left held held' h = tt
if_stopped (Err fault) w words left held held' h = h

pub done_took : (left held held' : Option (List ℕ)) (x : Result ℕ AnswerFault) (task : Task) (w : Wanted) (words : Words) → is_drawn task ≡ false → w ≡ wanted_of task → words ≡ words_of_task task → Converts x w words left held held'
    → IsDone task left held held' x × Makes task left held held' x
done_took left held held' x task w words lines e f h =
    let ok = if_answered x w words left held held' h in
    let err = if_stopped x w words left held held' h in (
      is_done left held held' x task w words e f (ok, err),
      makes left held held' x task w words lines e f
          (λ text pieces docs lenient l k. reads_answers w docs lenient words left held held' x ok err text pieces l k)
          (λ text pieces docs strict l k. reads_script w docs strict words left held held' x ok err text pieces l k)
          (λ text pieces is l k. reads_changes w is words left held held' x ok err text pieces l k)
          (λ text pieces is l k. reads_leaves w is words left held held' x ok err text pieces l k),
    )

-- ---- on the standard streams

known : {x y : List ℕ} → Some x ≡ Some y → x ≡ y
known e = ap (λ o. unwrap_or o []) e

-- The reads returned b before, and b' after; the output accepted h before, h' after the run and h'' after the flush. The
-- stream has taken `given`, of which `sent` was passed on.
pub standard : (words : List (List ℕ)) (all : Type 0) (first ended : Ended) (b b' h h' h'' given sent : List ℕ) → b ≡ [] → h ≡ [] → h'' ≡ h' → ((rest : List ℕ) × (h'' ≡ given ++ rest)) → Some given ≡ Some sent
    → ((input : List ℕ) × (b' ≡ b ++ input) × RunsWords words (Some input) (Some []) (Some h) (Some h') first) → IfDone first all → ((sent ≡ h'') × (ended ≡ first)) ⊎ (ended ≡ unflushed first) → RunsStandard words b' all given ended
standard words all first ended b b' h h' h'' given sent eb eh kept (rest, er) es (input, ei, runs) done flushed =
    let same : input ≡ b' = sym (ei ∙ ap (λ z. z ++ input) eb) in
    let on : (more : List ℕ) → h' ≡ given ++ more → RunsWords words (Some b') (Some []) (Some []) (Some (given ++ more)) first =
    λ more e. subst (λ z. RunsWords words (Some z) (Some []) (Some []) (Some (given ++ more)) first) same
    (subst (λ z. RunsWords words (Some input) (Some []) (Some z) (Some (given ++ more)) first) eh (subst (λ z. RunsWords words (Some input) (Some []) (Some h) (Some z) first) e runs)) in
    by flushed on where
      by : ((sent ≡ h'') × (ended ≡ first)) ⊎ (ended ≡ unflushed first) → ((more : List ℕ) → h' ≡ given ++ more → RunsWords words (Some b') (Some []) (Some []) (Some (given ++ more)) first) → RunsStandard words b' all given ended
      by (inl (all_sent, is)) on = (first, [], on [] (sym kept ∙ sym all_sent ∙ sym (known es) ∙ sym (append-nil given)), done, inl (refl, is))
      by (inr is) on = (first, rest, on rest (sym kept ∙ er), done, inr is)
