-- The revisions so far are requested.
use Rattle.proof_prelude.proofs.{◌≡◌, ◌++◌, false, map, take}
use Rattle.journal_lines.specs.Lists.{texts_of}
use Rattle.journal_tasks.specs.Receiving.{wanted_view}
use Rattle.journal_tasks.proofs.received.with_wanted.Given as goal

abbrev pub invariant-loop-rev : goal.invariant-loop-rev
invariant-loop-rev l = map wanted_view l.wanted.items ≡ map wanted_view l.doc.wanted.items ++ map (λ rev. (rev, false)) (texts_of (take l.rev-index l.revs))
