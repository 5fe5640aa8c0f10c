-- Lemmas: the order in which a picture shows the leaves of a document.
use Rattle.proof_prelude.proofs.{IsTotalOrder, nat_cmp_total, on_total, then_total}
use Rattle.std.proofs.lemmas.Cmp.{lists_total}
use Rattle.rev_core.specs.{rev_cmp_total}
use Rattle.diagrams.specs.declared.ancestries.Ancestries.{Ancestries}
use Rattle.diagrams.specs.declared.document.Leaf.{Leaf}
use Rattle.diagrams.specs.Ancestries.{ancestry_of}
use Rattle.diagrams.specs.Shapes.{leaf_cmp}

pub leaf_cmp_total : (a : Ancestries) → IsTotalOrder (leaf_cmp a)
leaf_cmp_total a =
    then_total (on_total (λ (l : Leaf). l.apart) nat_cmp_total)
    (then_total (on_total (λ (l : Leaf). ancestry_of a l.parent) (lists_total rev_cmp_total)) (on_total (λ (l : Leaf). l.rev) rev_cmp_total))
