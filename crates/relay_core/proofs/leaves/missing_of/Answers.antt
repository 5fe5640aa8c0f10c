use Rattle.proof_prelude.proofs.{◌≡◌, Bool, IfOk, subst}
use Rattle.relay_core.specs.Messages.{Text}
use Rattle.relay_core.specs.Views.{docs_view}
use Rattle.relay_core.specs.Leaves.{docs_where}
use Rattle.relay_core.proofs.LeafSets.{as_named}
use Rattle.relay_core.proofs.leaves.missing_of.Goals as goal

pub returns : goal.returns
returns c =
    subst (λ (p : Text → Text → Bool). IfOk c.leaves_in.result (λ v. docs_view v.items ≡ docs_where (λ id leaf. p id leaf) (docs_view c.args.docs.now)))
    (as_named c.in_ok-leaves.leaves.keys (docs_view c.args.named.now) c.in_ok-leaves.ensures) c.leaves_in.ensures
