use Rattle.proof_prelude.proofs.{◌∙◌}
use Rattle.rev_tree.proofs.{eight_at}
use Rattle.rev_tree.proofs.words.word_at.Goals as goal

pub returns : goal.returns
returns c = c.from_be_bytes.ensures ∙ eight_at c.args.text.now c.args.at c.requires
