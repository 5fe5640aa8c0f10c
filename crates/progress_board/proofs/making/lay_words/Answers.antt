use Rattle.progress_board.proofs.{kept_new}
use Rattle.progress_board.proofs.making.lay_words.Goals as goal

pub of_words-requires : goal.of_words-requires
of_words-requires c = kept_new c.args.workers c.args.words.now c.requires.words.0 c.requires.words.1
