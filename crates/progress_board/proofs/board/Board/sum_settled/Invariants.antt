use Rattle.proof_prelude.proofs.{◌≡◌, ◌*◌, ◌≤◌, take, sum}
use Rattle.progress_board.specs.{CameWith, IsLater, SameSeat}
use Rattle.progress_board.proofs.board.Board.sum_settled.Given as goal

abbrev pub invariant-loop-i : goal.invariant-loop-i
invariant-loop-i l = record {
  came : CameWith l.self l.seat;
  so_far : l.sum ≡ sum (take l.i l.seat.place.me.0.settles);
  fits : l.sum ≤ l.i * 9007199254740991;
  up : IsLater l.initial.seat.place.me.0 l.seat.place.me.0;
  same : SameSeat l.initial.seat l.seat;
}
