use Rattle.proof_prelude.proofs.{refl, ◌∙◌}
use Rattle.journal_core.specs.{first_chain, first_seq}
use Rattle.journal_core.proofs.blocks.Blocks.new.Goals as goal

pub returns : goal.returns
unfolding first_chain first_seq
returns c = record {
  chain = c.in_ok-chain.ensures.items ∙ c.as_slice.ensures;
  seq = c.in_ok-seq.ensures.items ∙ c.as_slice-2.ensures;
  body = c.new.ensures.items;
  count = refl;
  bytes = refl;
  lines = refl;
  whole = refl;
}
