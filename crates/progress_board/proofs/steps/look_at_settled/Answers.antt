use Rattle.proof_prelude.proofs.{◌≡◌, ◌+◌, ◌-◌, ◌<◌, ℕ, length, subst, arith}
use Rattle.atomic_table.specs.Table.{State, Allows}
use Rattle.progress_board.specs.{SeesSettled, Kept, SeatView}
use Rattle.progress_board.proofs.{load_settled}
use Rattle.progress_board.proofs.steps.look_at_settled.Goals as goal

pub load-requires : goal.load-requires
load-requires c =
    let k = c.args.table.now.shared.key in
    let me = c.args.place.now.me in
    let key = c.requires.board.0 in
    let low : c.args.i < k = omega arith in
    let place : k + c.args.i ≡ c.args.workers + c.args.i = omega arith in
    let back : c.args.i ≡ c.args.workers + c.args.i - length me.0.reads = let l = c.requires.place.2 in omega arith in (
      c.requires.place.0,
      omega arith,
      subst (λ (x : ℕ). Allows (λ (s : State _ SeatView). Kept k s.words s.views) c.args.table.now.shared.table_id.slots c.args.place.now.id me (c.args.workers + c.args.i) (λ n. n) (λ n w. SeesSettled me.0 x n w.0 × (w.1 ≡ me.1)))
          back
          (subst (λ (x : ℕ). Allows (λ (s : State _ SeatView). Kept k s.words s.views) c.args.table.now.shared.table_id.slots c.args.place.now.id me x (λ n. n) (λ n w. SeesSettled me.0 c.args.i n w.0 × (w.1 ≡ me.1)))
          place (load_settled k _ _ c.args.i me low)),
    )

pub returns-clause-sees : goal.returns-clause-sees
returns-clause-sees c =
    let l = c.requires.place.2 in
    let back : c.args.workers + c.args.i - length c.args.place.now.me.0.reads ≡ c.args.i = omega arith in
    subst (λ (x : ℕ). SeesSettled c.args.place.now.me.0 x c.load.result c.load.new.seat.me.0) back c.load.ensures.2.0
