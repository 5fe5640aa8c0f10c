-- Defines the number of workers of a run of the pool, as specified in docs/PROFILE.md, "The pool".
use Rattle.std.specs.Prelude.{ℕ, ◌+◌, ◌-◌, ◌/◌, nat_le, min, if◌then◌else◌}
use Rattle.repl_target.specs.declared.replication.Plan.{Plan}

-- The maximum number of windows that a run from sequence `start` to sequence `goal` can read, if `start` is less than
-- `goal`. A run reads the maximum number of windows if each sequence of the feed has a row.
abbrev pub most_windows : Plan → ℕ → ℕ → ℕ
most_windows plan start goal = (goal - start - 1) / plan.batch + 1

-- The number of fetchers of a run. The number of writers is equal to the number of fetchers. If the run has windows to
-- read, each number is the smaller of the plan's number of workers and the maximum number of windows. If the run has no
-- window to read, the number of fetchers is 1.
abbrev pub crew_of : Plan → ℕ → ℕ → ℕ
crew_of plan start goal = if nat_le goal start then 1 else min (most_windows plan start goal) plan.workers
