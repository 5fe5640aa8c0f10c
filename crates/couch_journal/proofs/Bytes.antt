-- The bytes that went through the reader and the writer of a task.
use Rattle.std.specs.Prelude.{IsSomeAnd}
use Rattle.proof_prelude.proofs.{None, Some, ◌≡◌, inr, ℕ, List, [], ◌++◌, Bool, true, false, Option, Result, Ok, Err, OnErr, IfOk, IfErr, Appends, Appends-nil, refl, sym, subst, ◌∙◌}
use Rattle.script_engine.specs.{ScriptFault}
use Rattle.script_engine.specs.Device.{FailsOnce}
use Rattle.journal_responses.specs.declared.said.Said.{Said}
use Rattle.couch_journal.specs.declared.options.NoTask.{NoTask}
use Rattle.couch_journal.specs.declared.options.NoTask.TheVariants.{Words, Unknown, Memory}
use Rattle.couch_journal.specs.Options.{Refuses}
use Rattle.couch_journal.specs.Runs.{NamesNoTask, IsNotShown, IsShown, Prints, RunsResponse, RunsTask, Shows, ShowsNothing}
use Rattle.couch_journal.specs.declared.ended.Outcome.{Outcome}
use Rattle.couch_journal.specs.declared.options.Options.{Options}
use Rattle.couch_journal.specs.declared.tasks.Task.{Task}
use Rattle.couch_journal.specs.Status.{missing_or_done}
use Rattle.couch_journal.specs.declared.run.Response.{Response}
use Rattle.couch_journal.specs.declared.run.Response.TheVariants.{Page, Refused}
use Rattle.json.specs.Find.{as_array}
use Rattle.json.specs.Json.{Json}
use Rattle.journal_responses.specs.Pages.{page_in}
use Rattle.journal_responses.specs.Responses.{IsOther, IsSaid, response_in}
use Rattle.journal_responses.specs.Refusals.{any_refused, refused_text}

-- no byte went through
pub nothing_passed : (taken held : Option (List ℕ)) → (input : List ℕ) × (text : List ℕ) × Appends taken taken input × Appends held held text
nothing_passed taken held = ([], [], Appends-nil taken, Appends-nil held)

-- a value that satisfies a statement
pub some_and : {A : Type 0} (o : Option A) (P : A → Type 0) → IsSomeAnd o P → (x : A) × (o ≡ Some x) × P x
some_and None P h = absurd h
some_and (Some x) P h = (x, refl, h)

-- ---- a response

pub page_shown : (several : Bool) (j : Json) (old new : List ℕ) → IsSomeAnd (page_in several j) (λ page. new ≡ old ++ page) → (shown : List ℕ) × (new ≡ old ++ shown) × Shows (Page several) j shown false
page_shown several j old new h = let s = some_and (page_in several j) (λ page. new ≡ old ++ page) h in (s.0, s.2, (s.1, refl))

pub refused_shown : (j : Json) (old new : List ℕ) (refused : Bool) → IsSomeAnd (as_array j) (λ entries. (new ≡ old ++ refused_text entries) × (refused ≡ any_refused entries)) → (shown : List ℕ) × (new ≡ old ++ shown) × Shows Refused j shown refused
refused_shown j old new refused h =
    let s = some_and (as_array j) (λ entries. (new ≡ old ++ refused_text entries) × (refused ≡ any_refused entries)) h in
    (refused_text s.0, s.2.0, (s.0, s.1, refl, s.2.1))

-- the input is JSON, and its value is shown or not
pub response_read : (response : Response) (body old new : List ℕ) (j : Json) (r : Result Bool Said) → response_in body ≡ Some j → IfOk r (λ refused. (shown : List ℕ) × (new ≡ old ++ shown) × Shows response j shown refused)
    → IfOk r (λ refused. (shown : List ℕ) × (new ≡ old ++ shown) × IsShown response body shown refused)
response_read response body old new j (Ok refused) e (shown, n, h) = (shown, n, (j, e, h))
response_read response body old new j (Err said) e h = tt

pub response_refused : (response : Response) (body : List ℕ) (j : Json) (r : Result Bool Said) → response_in body ≡ Some j → IfErr r (λ said. IsOther said → ShowsNothing response j) → IfErr r (IsSaid j) → IfErr r (IsNotShown response body)
response_refused response body j (Ok refused) e h k = tt
response_refused response body j (Err said) e h k = inr (j, e, k, h)

shown_prints : (response : Response) (input text : List ℕ) (refused : Bool) → IsShown response input text refused → Prints response input text (missing_or_done refused)
shown_prints response input text true h = h
shown_prints response input text false h = h

-- the output is written
pub response_written : (response : Response) (all : Type 0) (taken taken' held held' : Option (List ℕ)) (body input shown text : List ℕ) (refused : Bool) → body ≡ input → text ≡ shown → IsShown response body shown refused → all → Appends taken taken' input → Appends held held' text
    → (i : List ℕ) × (t : List ℕ) × Appends taken taken' i × Appends held held' t × RunsResponse response all i t (Ok (missing_or_done refused))
response_written response all taken taken' held held' body input shown text refused b e h at took written =
    (input, text, took, written, (at, shown_prints response input text refused (subst (λ z. IsShown response z text refused) b (subst (λ z. IsShown response body z refused) (sym e) h))))

-- the writer failed
pub response_cut : (response : Response) (all : Type 0) (taken taken' held held' : Option (List ℕ)) (body input shown text front back : List ℕ) (refused : Bool) (fault : ScriptFault) → body ≡ input → text ≡ shown → text ≡ front ++ back → IsShown response body shown refused → all → Appends taken taken' input → Appends held held' front
    → (i : List ℕ) × (t : List ℕ) × Appends taken taken' i × Appends held held' t × RunsResponse response all i t (Err fault)
response_cut response all taken taken' held held' body input shown text front back refused fault b e s h at took written =
    (input, front, took, written, inr (at, (back, refused, subst (λ z. IsShown response z (front ++ back) refused) b (subst (λ z. IsShown response body z refused) (sym e ∙ s) h))))

-- the output is written, or a part of it
pub response_wrote : (response : Response) (all : Type 0) (taken taken' held held' : Option (List ℕ)) (failures failures' : ℕ) (body input shown text : List ℕ) (refused : Bool) (r : Result Outcome ScriptFault) → IfOk r (λ outcome. Appends held held' text × (outcome ≡ missing_or_done refused))
    → OnErr r ((front : List ℕ) × (back : List ℕ) × (text ≡ front ++ back) × Appends held held' front × FailsOnce failures failures') → body ≡ input → text ≡ shown → IsShown response body shown refused → all → Appends taken taken' input
    → (i : List ℕ) × (t : List ℕ) × Appends taken taken' i × Appends held held' t × RunsResponse response all i t r
response_wrote response all taken taken' held held' failures failures' body input shown text refused (Ok outcome) ok err b e h at took =
    let w = response_written response all taken taken' held held' body input shown text refused b e h at took ok.0 in
    (w.0, w.1, w.2, w.3, subst (λ z. RunsResponse response all w.0 w.1 (Ok z)) (sym ok.1) w.4)
response_wrote response all taken taken' held held' failures failures' body input shown text refused (Err fault) ok err b e h at took =
    response_cut response all taken taken' held held' body input shown text err.0 err.1 refused fault b e err.2 h at took err.3

-- ---- a task

pub task_ran : (given is : Task) (o : Options) (all : Type 0) (taken taken' held held' : Option (List ℕ)) (r : Result Outcome ScriptFault) → given ≡ is → (input : List ℕ) × (text : List ℕ) × Appends taken taken' input × Appends held held' text × RunsTask is o all input text r
    → (input : List ℕ) × (text : List ℕ) × Appends taken taken' input × Appends held held' text × RunsTask given o all input text r
task_ran given is o all taken taken' held held' r e t = (t.0, t.1, t.2, t.3, subst (λ z. RunsTask z o all t.0 t.1 r) (sym e) t.4)

pub words_refused : (words : List (List ℕ)) (why : NoTask) → Refuses words why → NamesNoTask words why
words_refused words (Words error) h = h
words_refused words Unknown h = absurd h
words_refused words Memory h = tt
