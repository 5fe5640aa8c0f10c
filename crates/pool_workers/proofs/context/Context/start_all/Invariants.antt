use Rattle.proof_prelude.proofs.{◌≡◌, ◌+◌, ◌≤◌, vec_len, vec_items, vec_capacity, option_copied, All}
use Rattle.pool_workers.specs.{total, held, fetchers_in, writers_in, seat_of, IsStarting}
use Rattle.pool_workers.proofs.context.Context.start_all.Given as goal

abbrev pub invariant-loop-number : goal.invariant-loop-number
invariant-loop-number g l = record {
  count : l.count ≡ l.roles.alone + l.roles.workers;
  started : vec_len l.started ≡ l.number;
  room : l.count ≤ vec_capacity l.started;
  promised : All (λ h. (h.promise.channels.now ≡ l.self.channels.now) × (h.promise.gate.now ≡ l.self.gate.now) × (option_copied h.promise.board ≡ option_copied l.self.board)) (vec_items l.started);
  starting :
      IsStarting l.self.channels.now (option_copied l.self.board) (g.G.Gate.may_stop l.self.gate.now) l.roles (vec_items l.initial.rest.seats) l.number (total (λ h. fetchers_in h.promise.worker.value) (vec_items l.started))
      (total (λ h. writers_in h.promise.worker.value) (vec_items l.started)) (held (λ h. seat_of h.promise.worker.value) (vec_items l.started)) l.rest;
}
