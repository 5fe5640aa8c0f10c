use Rattle.proof_prelude.proofs.{take, sym, ap, ◌∙◌, subst}
use Rattle.rev_core.specs.{RevId, IsRev, padded}
use Rattle.rev_core.specs.SmallForm.{rev_of, IsSmall}
use Rattle.rev_core.proofs.{small_head}
use Rattle.rev_core.proofs.small_rev.SmallRev.head.Goals as goal

pub returns-in-Inline : goal.returns-in-Inline
returns-in-Inline c =
    let small = subst IsSmall c.in-Inline.is c.self.invariant.1 in
    let is = subst (λ f. IsRev (rev_of f)) c.in-Inline.is c.self.invariant.0 in
    let sig = ap (λ (r : RevId). r.sig) (ap rev_of (sym c.in-Inline.is) ∙ c.self.view_is) in
    small_head c.in-Inline.bytes c.in-Inline.len is.sig small.0 small.1 ∙ ap (λ t. take 32 (padded t)) sig
