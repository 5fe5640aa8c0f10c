-- The revision is none of the received ones so far.
use Rattle.proof_prelude.proofs.{◌≡◌, drop, map}
use Rattle.journal_tasks.specs.Receiving.{is_marked, wanted_view}
use Rattle.journal_tasks.proofs.received.is_marked.Given as goal

abbrev pub invariant-loop-item : goal.invariant-loop-item
invariant-loop-item l = is_marked (map wanted_view l.wanted) l.rev ≡ is_marked (map wanted_view (drop l.item-index l.wanted)) l.rev
