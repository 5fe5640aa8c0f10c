-- Tasks that have an argument: what was done for each value was done for one.
use Rattle.proof_prelude.proofs.{inl, inr, ℕ, List, [], Bool, true, false, Option, Appends}
use Rattle.line_reader.specs.{Ended, EndsBy, HasDone, HasPrinted, HasPrintedPart, HasStopped, IsFront, Kept, Runs, StepsBy, more, none}
use Rattle.line_reader.proofs.{done_by, stopped_by}
use Rattle.journal_tasks.specs.Arguments.{EndsFor, StepsFor}

for_runs : {P S : Type 0} (kept : P → Kept S) (p : P) {start state : S} {lines : List (List ℕ)} {text : List ℕ} → Runs (StepsFor kept) start lines text state → Runs (StepsBy (kept p)) start lines text state
for_runs kept p none = none
for_runs kept p (more line added new runs step) = more line added new (for_runs kept p runs) (step p)

for_front : {P S : Type 0} (kept : P → Kept S) (ended : P → Ended S) (p : P) (at_end : Bool) (state : S) (rest front : List ℕ) → IsFront at_end (StepsFor kept) (EndsFor kept ended) state rest front → IsFront at_end (StepsBy (kept p)) (EndsBy (kept p) (ended p)) state rest front
for_front kept ended p true state rest front (back, new, whole, step) = (back, new, whole, step p)
for_front kept ended p false state rest front (inl nothing) = inl nothing
for_front kept ended p false state rest front (inr (line, after, back, new, e, whole, step)) = inr (line, after, back, new, e, whole, step p)

pub done_for : {P S : Type 0} (kept : P → Kept S) (ended : P → Ended S) (p : P) (start state : S) (taken taken' held held' : Option (List ℕ)) → HasDone (StepsFor kept) (EndsFor kept ended) start taken taken' held state held' → kept p [] [] start
    → (input : List ℕ) × (text : List ℕ) × Appends taken taken' input × Appends held held' text × HasPrinted (ended p) input text state
done_for kept ended p start state taken taken' held held' d s =
    done_by (kept p) (ended p) start state taken taken' held held' (record {
      input = d.input;
      lines = d.lines;
      rest = d.rest;
      text = d.text;
      last_text = d.last_text;
      last = d.last;
      gives = d.gives;
      splits = d.splits;
      runs = for_runs kept p d.runs;
      ended = d.ended p;
      written = d.written;
    }) s

pub stopped_for : {P S : Type 0} (kept : P → Kept S) (ended : P → Ended S) (p : P) (start : S) (all : Type 0) (taken taken' held held' : Option (List ℕ)) → HasStopped (StepsFor kept) (EndsFor kept ended) start all taken taken' held held' → kept p [] [] start
    → (input : List ℕ) × (text : List ℕ) × Appends taken taken' input × Appends held held' text × HasPrintedPart (kept p) (ended p) all input text
stopped_for kept ended p start all taken taken' held held' (at_end, at, d) s =
    stopped_by (kept p) (ended p) start all taken taken' held held' (
      at_end,
      at,
      record {
        input = d.input;
        lines = d.lines;
        rest = d.rest;
        text = d.text;
        front = d.front;
        state = d.state;
        gives = d.gives;
        splits = d.splits;
        lines_whole = d.lines_whole;
        runs = for_runs kept p d.runs;
        is_front = for_front kept ended p at_end d.state d.rest d.front d.is_front;
        written = d.written;
      },
    ) s
