use Rattle.repl_pool.proofs.{risen_by}
use Rattle.repl_pool.proofs.running.run_on.Goals as goal

pub returns-clause-shown : goal.returns-clause-shown
returns-clause-shown g c = risen_by c.args.progress.board.now c.args.progress.seats.items c.run_with.result.seats.items c.run_with.result.outcome c.run_with.ensures.shown
