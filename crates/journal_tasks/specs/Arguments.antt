-- This file defines the steps of tasks that take an argument, for example an option of the command line.
use Rattle.line_reader.specs.Tasks.{Ended, EndsBy, Kept, Steps, StepsBy}

-- For every value p of a task's argument: if `kept p` is true before the task reads a line, `kept p` is true afterwards
-- (`StepsBy`).
abbrev pub StepsFor : {P S : Type 0} → (P → Kept S) → Steps S
StepsFor {P} {S} kept old line added new = (p : P) → StepsBy (kept p) old line added new

-- For every value p of a task's argument: if `kept p` is true before the task reads the input's end, `ended p` is true
-- afterwards (`EndsBy`).
abbrev pub EndsFor : {P S : Type 0} → (P → Kept S) → (P → Ended S) → Steps S
EndsFor {P} {S} kept ended old rest added new = (p : P) → EndsBy (kept p) (ended p) old rest added new
