-- Defines tasks that read lines, and the text that a task appends.
use Rattle.std.specs.Prelude.{◌≡◌, ◌⊎◌, ℕ, List, [], ◌∷◌, ◌++◌, Bool, true, false, Option, All}
use Rattle.std.specs.Io.KnownBytes.{Appends}
use Rattle.script_engine.specs.Device.{Gives}
use Rattle.script_engine.specs.Lines.{has_line_end}
use Rattle.line_reader.specs.Lines.{AreLines, joined}

-- A relation between a task's state before a step, the bytes that the task reads in the step, the text that the task
-- appends, and the state after the step. A step reads one line or the end of the input.
abbrev pub Steps : Type 0 → Type 1
Steps S = S → List ℕ → List ℕ → S → Type 0

-- If a task begins in the state `start` and reads the given lines in order, the task appends the given text, and ends
-- in the given state.
pub data Runs {S : Type 0} (steps : Steps S) (start : S) : List (List ℕ) → List ℕ → S → Type 0 where
  none : Runs steps start [] [] start
  more : {lines : List (List ℕ)} {text : List ℕ} {mid : S} (line added : List ℕ) (new : S)
      → Runs steps start lines text mid → steps mid line added new → Runs steps start (lines ++ line ∷ []) (text ++ added) new

-- A task that began in the state `start` has read all complete lines of the bytes `taken`. The writer has accepted all
-- text that the task appended. The bytes `begun` are the part of `taken` after the last line end. The arguments `held`
-- and `held'` are the bytes that the writer had accepted before and after the task read the lines.
pub record HasRun {S : Type 0} (steps : Steps S) (start : S) (held : Option (List ℕ)) (taken : List ℕ) (state : S)
    (begun : List ℕ) (held' : Option (List ℕ)) : Type 0 where
  pub lines : List (List ℕ)
  pub text : List ℕ
  pub splits : AreLines taken lines begun
  pub runs : Runs steps start lines text state
  pub written : Appends held held' text

-- A task has run over the complete input, and the writer has the task's text. The input that the task has read
-- satisfies the predicate `given`. The arguments `held` and `held'` are the bytes that the writer had accepted before
-- and after the run.
pub record IsDoneOn {S : Type 0} (steps ends : Steps S) (start : S) (given : List ℕ → Type 0) (held : Option (List ℕ)) (state : S)
    (held' : Option (List ℕ)) : Type 0 where
  pub input : List ℕ
  pub lines : List (List ℕ)
  pub rest : List ℕ
  pub text : List ℕ
  pub last_text : List ℕ
  pub last : S
  pub gives : given input
  pub splits : AreLines input lines rest
  pub runs : Runs steps start lines text last
  pub ended : ends last rest last_text state
  pub written : Appends held held' (text ++ last_text)

-- A task has read its complete input (`IsDoneOn`). The input is `left`, the bytes that the reader had not returned
-- before the task ran.
abbrev pub IsDone : {S : Type 0} → Steps S → Steps S → S → Option (List ℕ) → Option (List ℕ) → S → Option (List ℕ) → Type 0
IsDone steps ends start left held state held' = IsDoneOn steps ends start (Gives left) held state held'

-- A task has read its complete input (`IsDoneOn`). The input is the bytes that the reader returned during a call.
-- Before the call, the reader had returned the bytes `taken`. By the end of the call, the reader had returned the bytes
-- `taken'`.
abbrev pub HasDone : {S : Type 0} → Steps S → Steps S → S → Option (List ℕ) → Option (List ℕ) → Option (List ℕ) → S → Option (List ℕ)
    → Type 0
HasDone steps ends start taken taken' held state held' = IsDoneOn steps ends start (Appends taken taken') held state held'

-- The list of bytes `front` is a prefix of the text that a task in the given state appends next. The bytes `rest` are
-- the part of the input that the task has not read yet. If `at_end` is true, the list `front` is a prefix of the text
-- that the task appends at the end of the input. If `at_end` is false, the list `front` is empty, or is a prefix of the
-- text that the task appends for the next line.
abbrev pub IsFront : {S : Type 0} → Bool → Steps S → Steps S → S → List ℕ → List ℕ → Type 0
IsFront {S} true steps ends state rest front =
    (back : List ℕ) × (new : S) × (has_line_end rest ≡ false) × ends state rest (front ++ back) new
IsFront {S} false steps ends state rest front =
    (front ≡ [])
    ⊎ ((line after back : List ℕ) × (new : S) × (rest ≡ line ++ 10 ∷ after) × (has_line_end line ≡ false)
    × steps state line (front ++ back) new)

-- If an error stopped a task, the writer has accepted the task's complete text for the input's first lines, and then
-- the bytes `front`. The list `front` is a prefix of the text that the task appends for the next line, or at the
-- input's end (`IsFront`). The predicate `given` is true of the input that was read.
pub record IsStoppedOn {S : Type 0} (at_end : Bool) (steps ends : Steps S) (start : S) (given : List ℕ → Type 0)
    (held held' : Option (List ℕ)) : Type 0 where
  pub input : List ℕ
  pub lines : List (List ℕ)
  pub rest : List ℕ
  pub text : List ℕ
  pub front : List ℕ
  pub state : S
  pub gives : given input
  pub splits : input ≡ joined lines ++ rest
  pub lines_whole : All (λ line. has_line_end line ≡ false) lines
  pub runs : Runs steps start lines text state
  pub is_front : IsFront at_end steps ends state rest front
  pub written : Appends held held' (text ++ front)

-- An error stopped a task. The statement `ended` says that the input has ended. If `ended` is false, the writer has not
-- accepted any text that the task appends at the end of the input.
abbrev pub HasStopped : {S : Type 0} → Steps S → Steps S → S → Type 0 → Option (List ℕ) → Option (List ℕ) → Option (List ℕ)
    → Option (List ℕ) → Type 0
HasStopped steps ends start ended taken taken' held held' =
    (at_end : Bool) × (at_end ≡ true → ended) × IsStoppedOn at_end steps ends start (Appends taken taken') held held'

-- ---- output determined by lines

-- The type of a statement about the lines that a task has read, the text that the task has appended, and the task's
-- state.
abbrev pub Kept : Type 0 → Type 1
Kept S = List (List ℕ) → List ℕ → S → Type 0

-- The type of a statement about a task that has read its complete input. The statement's parameters are the input's
-- lines, the bytes after the last line end, the task's text, and the task's state.
abbrev pub Ended : Type 0 → Type 1
Ended S = List (List ℕ) → List ℕ → List ℕ → S → Type 0

-- A task's step for a line keeps the statement `kept` true. If `kept` is true before the task reads the line, `kept` is
-- true afterwards.
abbrev pub StepsBy : {S : Type 0} → Kept S → Steps S
StepsBy {S} kept old line added new =
    (lines : List (List ℕ)) (text : List ℕ) → kept lines text old → kept (lines ++ line ∷ []) (text ++ added) new

-- A task's step at the end of the input: if the statement `kept` is true before the step, the statement `ended` is true
-- afterwards.
abbrev pub EndsBy : {S : Type 0} → Kept S → Ended S → Steps S
EndsBy {S} kept ended old rest added new =
    (lines : List (List ℕ)) (text : List ℕ) → kept lines text old → ended lines rest (text ++ added) new

-- After the task has read the complete input, the statement `ended` is true of the input, the output `text` and the
-- task's state.
abbrev pub HasPrinted : {S : Type 0} → Ended S → List ℕ → List ℕ → S → Type 0
HasPrinted {S} ended input text state =
    (lines : List (List ℕ)) × (rest : List ℕ) × AreLines input lines rest × ended lines rest text state

-- After an error, the task's output `text` is a prefix of the output for the first n lines of the input, for some
-- number n. If the statement `all` is true (the task had read the complete input), `text` may also be a prefix of the
-- complete output.
abbrev pub HasPrintedPart : {S : Type 0} → Kept S → Ended S → Type 0 → List ℕ → List ℕ → Type 0
HasPrintedPart {S} kept ended all input text =
    ((lines : List (List ℕ)) × (rest back : List ℕ) × (state : S) × (input ≡ joined lines ++ rest)
    × All (λ line. has_line_end line ≡ false) lines × kept lines (text ++ back) state)
    ⊎ (all × ((back : List ℕ) × (state : S) × HasPrinted ended input (text ++ back) state))
