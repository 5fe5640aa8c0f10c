use Rattle.proof_prelude.proofs.{◌≡◌, ◌-◌, drop}
use Rattle.rev_tree.specs.{falls, revs_in}
use Rattle.rev_tree.proofs.nodes.falls_from.Given as goal

-- all fall if those from the last one on do
abbrev pub invariant-loop-i : goal.invariant-loop-i
invariant-loop-i l = falls (drop l.first (revs_in l.nodes)) ≡ falls (drop (l.i - 1) (revs_in l.nodes))
