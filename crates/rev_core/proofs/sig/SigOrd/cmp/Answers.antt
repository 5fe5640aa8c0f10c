use Rattle.proof_prelude.proofs.{◌∙◌, nat_cmp, slice_cmp}
use Rattle.rev_core.proofs.{first_decides}
use Rattle.rev_core.proofs.sig.SigOrd.cmp.Goals as goal

pub returns-then-first-against : goal.returns-then-first-against
returns-then-first-against c =
    c.cmp.ensures
    ∙ first_decides c.self.inside.bytes c.other.inside.bytes c.self.inside.len c.other.inside.len c.self.invariant c.other.invariant c.if-first-against.true
    ∙ (λ i. slice_cmp nat_cmp (c.self.view_is i) (c.other.view_is i))
