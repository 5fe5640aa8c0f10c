-- The requested revisions so far, after the leaf.
use Rattle.proof_prelude.proofs.{◌≡◌, map, take}
use Rattle.journal_lines.specs.Leafs.{leaf_view}
use Rattle.journal_tasks.specs.Receiving.{received_by, wanted_view}
use Rattle.journal_tasks.proofs.received.received_after.Given as goal

abbrev pub invariant-loop-item : goal.invariant-loop-item
invariant-loop-item l = map wanted_view l.after.items ≡ map (received_by (leaf_view l.leaf)) (map wanted_view (take l.item-index l.wanted))
