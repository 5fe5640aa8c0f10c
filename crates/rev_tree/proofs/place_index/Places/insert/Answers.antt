use Rattle.proof_prelude.proofs.{◌≡◌, ◌++◌, ◌∷◌, [], ap, ◌∙◌, nat_eq, lookup, option_map_or}
use Rattle.indexmap.proofs.CallerLemmas.{insert_entry-new}
use Rattle.rev_tree.proofs.place_index.Places.insert.Goals as goal

pub returns-clause-entries : goal.returns-clause-entries
returns-clause-entries c =
    let same : c.deref_mut.result.now.positions.entries ≡ c.args.self.now.entries =
    (λ i. (c.deref_mut.ensures.value i).positions.entries) ∙ (λ i. option_map_or (λ b. b.value.positions.entries) (c.in-Some.ensures.value i) []) ∙ (λ i. (c.self.view_is i).entries) in
    c.in-Ok.ensures.entries
    ∙ insert_entry-new _ c.deref_mut.result.now.positions c.args.mark c.args.place (ap (lookup (nat_eq c.args.mark)) same ∙ c.requires.new)
    ∙ ap (λ es. es ++ (c.args.mark, c.args.place) ∷ []) same
