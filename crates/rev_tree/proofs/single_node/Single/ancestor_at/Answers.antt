use Rattle.proof_prelude.proofs.{◌≡◌, ◌≢◌, ℕ, zero, suc, ◌∷◌, [], None, refl, slice_get, sym, ap, ◌∙◌, subst}
use Rattle.rev_core.specs.{RevId}
use Rattle.rev_tree.specs.{IsSingle}
use Rattle.rev_tree.proofs.{ancestors-single}
use Rattle.rev_tree.proofs.single_node.Single.ancestor_at.Goals as goal

past : (r : RevId) (k : ℕ) → k ≢ 0 → None ≡ slice_get (r ∷ []) k
past r zero h = absurd (h refl)
past r (suc k) h = refl

pub returns-else-steps-eq0 : goal.returns-else-steps-eq0
returns-else-steps-eq0 c =
    past c.args.self.now.rev c.args.steps c.if-steps-eq0.false
    ∙ sym (ap (λ l. slice_get l c.args.steps) (ancestors-single c.args.self.now (subst IsSingle c.self.view_is c.self.invariant)))
