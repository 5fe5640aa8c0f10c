-- Defines the meaning of the result of the gate, a callback that workers call at each stage (docs/PROFILE.md, "The
-- pool").
use Rattle.pool_workers.specs.declared.gate.Turn.{Turn}
use Rattle.pool_workers.specs.declared.gate.Turn.TheVariants.{Go, Stop}

-- The gate, a callback that workers call at each stage, returns `Stop` only if `allowed` is true.
abbrev pub Stops : Turn → Type 0 → Type 0
Stops Go allowed = Unit {0}
Stops Stop allowed = allowed
