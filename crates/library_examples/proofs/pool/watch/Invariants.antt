-- The viewer's seat belongs to the board.
use Rattle.progress_board.specs.{CameWith}
use Rattle.library_examples.proofs.pool.watch.Given as goal

abbrev pub invariant-loop : goal.invariant-loop
invariant-loop g l = CameWith l.board l.viewer
