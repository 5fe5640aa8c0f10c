use Rattle.proof_prelude.proofs.{ℕ, List, [], subst}
use Rattle.diagrams.specs.{Draws}
use Rattle.diagrams.proofs.{drawn_then}
use Rattle.diagrams.proofs.drawer.tail_of.Goals as goal

pub returns : goal.returns
returns c =
    subst (λ (old : List ℕ). Draws old c.mark.new.out.items []) c.new-tail.ensures.items
    (drawn_then _ _ _ [] [] c.in_ok-draw_size.ensures c.in_ok-mark.ensures.draws)
