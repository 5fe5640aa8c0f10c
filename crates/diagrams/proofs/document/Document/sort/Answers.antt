use Rattle.proof_prelude.proofs.{always_returns_same, on_ok_weaker, ranks_by, is_lt, rules}
use Rattle.diagrams.specs.declared.document.Leaf.{Leaf}
use Rattle.diagrams.specs.Shapes.{leaf_cmp}
use Rattle.diagrams.proofs.LeafOrder.{leaf_cmp_total}
use Rattle.diagrams.proofs.document.Document.sort.Goals as goal

pub returns-clause-sorted : goal.returns-clause-sorted
returns-clause-sorted c =
    let a = c.args.self.now.ancestries in
    on_ok_weaker c.sort_by.result
    (λ sorted. sorted (λ x y. is_lt (leaf_cmp a x y)) (ranks_by (leaf_cmp_total a) (λ (l : Leaf). l)) (always_returns_same _ _ _ (λ x r q k. search rules)))
    c.sort_by.ensures.sorted
