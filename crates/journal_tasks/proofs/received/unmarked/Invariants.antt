-- The revisions so far that were not received.
use Rattle.proof_prelude.proofs.{◌≡◌, map, take}
use Rattle.journal_lines.specs.Lists.{texts_of}
use Rattle.journal_tasks.specs.Receiving.{unmarked, wanted_view}
use Rattle.journal_tasks.proofs.received.unmarked.Given as goal

abbrev pub invariant-loop-rev : goal.invariant-loop-rev
invariant-loop-rev l = texts_of l.missing.items ≡ unmarked (map wanted_view l.wanted) (texts_of (take l.rev-index l.revs))
