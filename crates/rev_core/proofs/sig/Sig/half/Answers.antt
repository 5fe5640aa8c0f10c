use Rattle.proof_prelude.proofs.{take, ap, ◌∙◌, arith}
use Rattle.rev_core.specs.{padded}
use Rattle.rev_core.proofs.{listed-take}
use Rattle.rev_core.proofs.sig.Sig.half.Goals as goal

pub returns : goal.returns
returns c =
    listed-take 32 0 c.self.inside.bytes (omega (arith, c.self.invariant.size))
    ∙ ap (take 32) (c.self.invariant.zeros ∙ ap padded c.self.view_is)
