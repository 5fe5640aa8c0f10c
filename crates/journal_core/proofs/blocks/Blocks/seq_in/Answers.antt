use Rattle.proof_prelude.proofs.{◌+◌, ap, ◌∙◌, drop, length}
use Rattle.journal_core.specs.{seq_of}
use Rattle.journal_core.proofs.blocks.Blocks.seq_in.Goals as goal

pub returns : goal.returns
unfolding seq_of
returns c = c.in_ok-seq.ensures.items ∙ c.seq_in.ensures ∙ ap (λ n. drop (n + 65) c.args.line.now) (ap length (c.as_slice-length.ensures.value ∙ c.in_ok-head.ensures))
