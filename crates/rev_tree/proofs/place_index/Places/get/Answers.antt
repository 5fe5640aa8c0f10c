use Rattle.proof_prelude.proofs.{[], sym, ◌∙◌, nat_eq, lookup, option_map_or}
use Rattle.rev_tree.proofs.place_index.Places.get.Goals as goal

pub returns-in-Some : goal.returns-in-Some
returns-in-Some c =
    c.copied.ensures ∙ c.get.ensures.value
    ∙ (λ i. lookup (nat_eq c.args.mark) (c.deref.ensures i).positions.entries)
    ∙ (λ i. lookup (nat_eq c.args.mark) (option_map_or (λ b. b.value.positions.entries) (sym c.in-Some.is i) []))
    ∙ (λ i. lookup (nat_eq c.args.mark) (c.self.view_is i).entries)
