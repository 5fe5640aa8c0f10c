use Rattle.proof_prelude.proofs.{arith}
use Rattle.progress_board.proofs.{splits_viewer}
use Rattle.progress_board.proofs.steps.admit.Goals as goal

pub split_seat-requires : goal.split_seat-requires
split_seat-requires c = (c.requires.dealer.0, omega arith, splits_viewer c.args.table.now.shared.key _ _)
