-- Tasks whose output is determined by the lines.
use Rattle.proof_prelude.proofs.{◌≡◌, ℕ, List, [], ◌∷◌, ◌++◌, Bool, true, false, Option, All, inl, inr, refl, sym, ap, subst, ◌∙◌, append_assoc, append-nil, All-push, Appends}
use Rattle.script_engine.specs.{has_line_end}
use Rattle.line_reader.specs.{joined, Ended, EndsBy, HasDone, HasPrinted, HasPrintedPart, HasStopped, IsFront, Kept, Runs, StepsBy, more, none}
use Rattle.line_reader.proofs.Reading.{joined-append}

-- what is true after the lines
pub runs_by : {S : Type 0} (kept : Kept S) {start state : S} {lines : List (List ℕ)} {text : List ℕ} → Runs (StepsBy kept) start lines text state → kept [] [] start → kept lines text state
runs_by kept none s = s
runs_by kept (more {lines} {text} line added new runs step) s = step lines text (runs_by kept runs s)

-- the complete input was read
pub done_by : {S : Type 0} (kept : Kept S) (ended : Ended S) (start state : S) (taken taken' held held' : Option (List ℕ)) → HasDone (StepsBy kept) (EndsBy kept ended) start taken taken' held state held' → kept [] [] start
    → (input : List ℕ) × (text : List ℕ) × Appends taken taken' input × Appends held held' text × HasPrinted ended input text state
done_by kept ended start state taken taken' held held' d s = (d.input, d.text ++ d.last_text, d.gives, d.written, (d.lines, d.rest, d.splits, d.ended d.lines d.text (runs_by kept d.runs s)))

next_line : (lines : List (List ℕ)) (line after rest : List ℕ) (input : List ℕ) → input ≡ joined lines ++ rest → rest ≡ line ++ 10 ∷ after → input ≡ joined (lines ++ line ∷ []) ++ after
next_line lines line after rest input e r =
    e ∙ ap (λ z. joined lines ++ z) r ∙ ap (λ z. joined lines ++ z) (sym (append_assoc line (10 ∷ []) after)) ∙ sym (append_assoc (joined lines) (line ++ 10 ∷ []) after)
    ∙ ap (λ z. z ++ after) (sym (joined-append lines line))

by_front : {S : Type 0} (kept : Kept S) (ended : Ended S) (all : Type 0) (at_end : Bool) (input : List ℕ) (lines : List (List ℕ)) (rest text front : List ℕ) (state : S) → (at_end ≡ true → all) → input ≡ joined lines ++ rest → All (λ line. has_line_end line ≡ false) lines → kept lines text state
    → IsFront at_end (StepsBy kept) (EndsBy kept ended) state rest front → HasPrintedPart kept ended all input (text ++ front)
by_front kept ended all true input lines rest text front state at e whole k (back, new, unended, step) = inr (
  at refl,
  (
    back,
    new,
    (
      lines,
      rest,
      record { whole = e; lines_whole = whole; rest_begun = unended },
      subst (λ z. ended lines rest z new) (sym (append_assoc text front back)) (step lines text k),
    ),
  ),
)
by_front kept ended all false input lines rest text front state at e whole k (inl nothing) =
    inl (lines, rest, [], state, e, whole, subst (λ z. kept lines z state) (sym (append-nil (text ++ front) ∙ ap (λ z. text ++ z) nothing ∙ append-nil text)) k)
by_front kept ended all false input lines rest text front state at e whole k (inr (line, after, back, new, r, unended, step)) = inl (
  lines ++ line ∷ [],
  after,
  back,
  new,
  next_line lines line after rest input e r,
  All-push (λ line. has_line_end line ≡ false) lines line whole unended,
  subst (λ z. kept (lines ++ line ∷ []) z new) (sym (append_assoc text front back)) (step lines text k),
)

-- an error stopped the task
pub stopped_by : {S : Type 0} (kept : Kept S) (ended : Ended S) (start : S) (all : Type 0) (taken taken' held held' : Option (List ℕ)) → HasStopped (StepsBy kept) (EndsBy kept ended) start all taken taken' held held' → kept [] [] start
    → (input : List ℕ) × (text : List ℕ) × Appends taken taken' input × Appends held held' text × HasPrintedPart kept ended all input text
stopped_by kept ended start all taken taken' held held' (at_end, at, d) s =
    (d.input, d.text ++ d.front, d.gives, d.written, by_front kept ended all at_end d.input d.lines d.rest d.text d.front d.state at d.splits d.lines_whole (runs_by kept d.runs s) d.is_front)
