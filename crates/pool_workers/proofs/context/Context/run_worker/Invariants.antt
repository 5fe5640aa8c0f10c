use Rattle.proof_prelude.proofs.{option_copied}
use Rattle.pool_workers.specs.{Keeps}
use Rattle.pool_workers.proofs.context.Context.run_worker.Given as goal

abbrev pub invariant-loop : goal.invariant-loop
invariant-loop g l = Keeps l.self.channels.now (option_copied l.self.board) (g.G.Gate.may_stop l.self.gate.now) l.fn.worker l.worker
