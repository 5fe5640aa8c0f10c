use Rattle.proof_prelude.proofs.{◌≡◌, take}
use Rattle.repl_world.specs.{run}
use Rattle.repl_world.specs.Tied.{Tied}
use Rattle.repl_world.proofs.world.World.take_all.Given as goal

-- the steps so far are taken
abbrev pub invariant-loop-step : goal.invariant-loop-step
invariant-loop-step g l =
    (l.self.0 ≡ l.initial.self.0)
    × (l.self.1 ≡ run (g.F.WriteFilter.refuses l.initial.self.0.1) l.initial.self.1 (take l.step-index l.steps))
    × (Tied l.initial.self.1 → Tied l.self.1)
