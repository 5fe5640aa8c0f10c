use Rattle.proof_prelude.proofs.{◌≡◌, ℕ, List, vec_len, vec_items, option_copied, All}
use Rattle.progress_board.specs.{BoardSeat}
use Rattle.pool_workers.specs.{total, held, fetchers_in, writers_in, seat_of, HasRest}
use Rattle.pool_workers.proofs.context.Context.join_all.Given as goal

abbrev pub invariant-loop-handle : goal.invariant-loop-handle
invariant-loop-handle g l = record {
  promised : All (λ h. (h.promise.channels.now ≡ l.self.channels.now) × (h.promise.gate.now ≡ l.self.gate.now) × (option_copied h.promise.board ≡ option_copied l.self.board)) (vec_items l.left);
  rest :
      (workers : ℕ) (given : List BoardSeat)
      → HasRest l.self.channels.now (option_copied l.self.board) (g.G.Gate.may_stop l.self.gate.now) workers given (total (λ h. fetchers_in h.promise.worker.value) (vec_items l.fn.handles)) (total (λ h. writers_in h.promise.worker.value) (vec_items l.fn.handles))
      (held (λ h. seat_of h.promise.worker.value) (vec_items l.fn.handles)) l.initial.rest
      → HasRest l.self.channels.now (option_copied l.self.board) (g.G.Gate.may_stop l.self.gate.now) workers given (total (λ h. fetchers_in h.promise.worker.value) (vec_items l.left)) (total (λ h. writers_in h.promise.worker.value) (vec_items l.left))
      (held (λ h. seat_of h.promise.worker.value) (vec_items l.left)) l.rest;
}

abbrev pub decreases-loop-handle : goal.decreases-loop-handle
decreases-loop-handle g l = vec_len l.left
