-- The live leaves so far are counted.
use Rattle.proof_prelude.proofs.{◌≡◌, ◌≤◌, filter, length, map, not, take}
use Rattle.journal_lines.specs.Leafs.{head_view}
use Rattle.journal_tasks.proofs.conflicts.has_two_live.Given as goal

abbrev pub invariant-loop-leaf : goal.invariant-loop-leaf
invariant-loop-leaf l = record {
  below : l.live ≤ l.leaf-index;
  counted : l.live ≡ length (filter (λ head. not head.2) (map (λ leaf. head_view leaf.now) (take l.leaf-index l.leaves)));
}
