use Rattle.proof_prelude.proofs.{◌≡◌, drop}
use Rattle.std.specs.FinMap.{find}
use Rattle.rev_core.specs.{rev_cmp}
use Rattle.rev_tree.specs.{place_of, places_from, revs_in}
use Rattle.rev_tree.proofs.nodes.walked_to.Given as goal

-- the index is among the remaining nodes
abbrev pub invariant-loop-i : goal.invariant-loop-i
invariant-loop-i l = place_of l.nodes l.rev ≡ find rev_cmp l.rev (places_from l.i (revs_in (drop l.i l.nodes)))
