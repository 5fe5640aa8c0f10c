use Rattle.proof_prelude.proofs.{◌≡◌, [], vec_len, vec_capacity, vec_items}
use Rattle.progress_board.specs.{dealer, SeatsAre}
use Rattle.progress_board.proofs.making.add_workers.Given as goal

abbrev pub invariant-loop-i : goal.invariant-loop-i
invariant-loop-i l = record {
  table : l.dealing.table_id ≡ l.table.shared.table_id;
  me : l.dealing.me ≡ (dealer l.workers l.i, []);
  len : vec_len l.seats ≡ l.i;
  capacity : vec_capacity l.seats ≡ vec_capacity l.initial.seats;
  seats : SeatsAre l.table.shared.table_id l.workers l.workers (vec_items l.seats);
}
