use Rattle.proof_prelude.proofs.{◌≡◌, ℕ, ◌-◌, List, take, drop, min, length, ap, ◌∙◌}
use Rattle.relay_core.specs.declared.messages.DocLeaves.{DocLeaves}
use Rattle.relay_core.specs.Views.{docs_view}
use Rattle.relay_core.proofs.Lists.{part_is}
use Rattle.relay_core.proofs.phase.part_of.Goals as goal

cut : (xs ys : List DocLeaves) (k s f n : ℕ) → xs ≡ ys → f ≡ min k (length xs) → n ≡ min s (length (take (length xs - f) (drop f xs))) → docs_view (take n (take (length xs - f) (drop f xs))) ≡ docs_view (take s (drop k ys))
cut xs ys k s f n same f_is n_is =
    ap (λ (m : ℕ). docs_view (take m (take (length xs - f) (drop f xs)))) n_is
    ∙ ap (λ (g : ℕ). docs_view (take (min s (length (take (length xs - g) (drop g xs)))) (take (length xs - g) (drop g xs)))) f_is
    ∙ ap docs_view (part_is xs k s) ∙ ap (λ (zs : List DocLeaves). docs_view (take s (drop k zs))) same

pub returns : goal.returns
returns c = cut c.as_slice-missing.result.now c.args.transfer.now.missing.items c.args.transfer.now.carried c.args.transfer.now.size c.min-from.result c.min.result c.as_slice-missing.ensures.value c.min-from.ensures c.min.ensures
