use Rattle.progress_board.specs.{CameWith}
use Rattle.peer_tests.proofs.tests.pool_boards.sees_no_fall.Given as goal

abbrev pub invariant-loop : goal.invariant-loop
invariant-loop l = CameWith l.board l.viewer
