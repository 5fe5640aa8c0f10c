use Rattle.repl_pool.proofs.{new_left}
use Rattle.peer_tests.proofs.{taken_came}
use Rattle.peer_tests.proofs.tests.pool_boards.take_seat.Goals as goal

pub returns-clause-rest : goal.returns-clause-rest
returns-clause-rest c = new_left c.args.board.now c.args.seats.now.items c.pop.new.self.items _ c.requires c.pop.ensures.items

pub returns-clause-seat : goal.returns-clause-seat
returns-clause-seat c = taken_came c.args.board.now c.args.seats.now.items c.pop.new.self.items c.pop.result c.requires c.pop.ensures.items
