use Rattle.proof_prelude.proofs.{◌<◌, arith}
use Rattle.progress_board.proofs.{load_read}
use Rattle.progress_board.proofs.steps.look_at_read.Goals as goal

pub load-requires : goal.load-requires
load-requires c =
    let low : c.args.i < c.args.table.now.shared.key = omega arith in
    (c.requires.place.0, omega arith, load_read c.args.table.now.shared.key _ _ _ c.args.place.now.me low)
