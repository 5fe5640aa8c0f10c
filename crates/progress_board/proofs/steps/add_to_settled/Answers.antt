use Rattle.proof_prelude.proofs.{◌≡◌, ◌≤◌, ◌%◌, ◌^◌, ℕ, slice_index, ◌+◌, subst, arith}
use Rattle.atomic_table.specs.Table.{State, Allows}
use Rattle.progress_board.specs.{added_settled, Kept, SeatView}
use Rattle.progress_board.proofs.{add_settled}
use Rattle.progress_board.proofs.steps.add_to_settled.Goals as goal

pub fetch_add-requires : goal.fetch_add-requires
fetch_add-requires c =
    let me = c.args.place.now.me in
    let k = c.args.table.now.shared.key in
    let q = c.requires.own.1 in
    let most : slice_index me.0.settles me.0.number + c.args.n ≤ slice_index me.0.reads me.0.number = rw q c.requires.fits in
    let place : k + me.0.number ≡ c.args.workers + c.args.number = omega arith in (
      c.requires.place.0,
      omega arith,
      subst (λ (x : ℕ). Allows (λ (s : State _ SeatView). Kept k s.words s.views) c.args.table.now.shared.table_id.slots c.args.place.now.id me x (λ m. (m + c.args.n) % 2 ^ 64) (λ m w. (w.0 ≡ added_settled me.0 c.args.n) × (w.1 ≡ me.1)))
          place (add_settled k _ _ c.args.n me c.requires.own.0 most),
    )
