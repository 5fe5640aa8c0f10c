-- The seats of a new board, taken from the end.
use Rattle.proof_prelude.proofs.{◌≡◌, ◌++◌, List, Option, None, Some, option_to_list, IfSome}
use Rattle.progress_board.specs.{AreNew, CameWith, Board, BoardSeat}
use Rattle.repl_pool.proofs.{new_taken}

-- the seat that was taken belongs to the board
pub taken_came : (b : Board) (seats rest : List BoardSeat) (taken : Option BoardSeat) → AreNew b seats → seats ≡ rest ++ option_to_list taken → IfSome taken (CameWith b)
taken_came b seats rest None new e = tt
taken_came b seats rest (Some s) new e = (new_taken b seats rest s new e).came
