-- The remaining seats are as the board was created with them; those that were taken belong to it and have counted
-- nothing.
use Rattle.proof_prelude.proofs.{◌≡◌, ◌+◌, ◌≤◌, All, vec_len, vec_capacity, vec_items}
use Rattle.progress_board.specs.{AreNew, CameWith}
use Rattle.pool_workers.specs.{HasNothing}
use Rattle.repl_pool.proofs.seats.board_with_seats.Given as goal

abbrev pub invariant-loop-i : goal.invariant-loop-i
invariant-loop-i l = record {
  new : AreNew l.board (vec_items l.seats);
  left : vec_len l.seats + l._i ≡ l.workers + l.viewers;
  taken : vec_len l.apart ≡ l._i;
  room : l.viewers ≤ vec_capacity l.apart;
  came : All (CameWith l.board) (vec_items l.apart);
  nothing : All HasNothing (vec_items l.apart);
}
