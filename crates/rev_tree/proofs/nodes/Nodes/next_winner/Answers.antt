use Rattle.proof_prelude.proofs.{List, slice_get, sym, ap, ◌∙◌}
use Rattle.rev_tree.specs.{NodeValue, first_of, leaves, revs_in, tree_of}
use Rattle.rev_tree.proofs.nodes.Nodes.next_winner.Goals as goal

pub returns-in-None-clause-first : goal.returns-in-None-clause-first
returns-in-None-clause-first c r is =
    let same = c.in-None.ensures.items in
    ap (λ (l : List NodeValue). slice_get (revs_in l) c.first_leaf.result) (sym same)
    ∙ c.first_leaf.ensures r (ap (λ (l : List NodeValue). first_of (leaves (tree_of l))) same ∙ is)
