use Rattle.proof_prelude.proofs.{length, ◌++◌, ◌-◌, replicate, sym, ap, ◌∙◌, drop-replicate}
use Rattle.rev_core.proofs.sig.padded.Goals as goal

pub returns-then-text-eq32 : goal.returns-then-text-eq32
returns-then-text-eq32 c =
    (λ i. c.copy_from_slice.ensures.after i ++ drop-replicate 32 64 0 i)
    ∙ ap (λ n. c.args.text.now ++ replicate (64 - n) 0) (sym c.if-text-eq32.true)

pub returns-else-text-eq32 : goal.returns-else-text-eq32
returns-else-text-eq32 c = λ i. c.copy_from_slice-else-text-eq32.ensures.after i ++ drop-replicate (length c.args.text.now) 64 0 i
