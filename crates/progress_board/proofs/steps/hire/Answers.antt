use Rattle.proof_prelude.proofs.{◌<◌, arith}
use Rattle.progress_board.proofs.{splits_worker}
use Rattle.progress_board.proofs.steps.hire.Goals as goal

pub split_seat-requires : goal.split_seat-requires
split_seat-requires c =
    let low : c.args.dealer.now.me.0.number < c.args.table.now.shared.key = omega arith in
    (c.requires.dealer.0, omega arith, splits_worker c.args.table.now.shared.key _ _ c.requires.dealer.2 low)
