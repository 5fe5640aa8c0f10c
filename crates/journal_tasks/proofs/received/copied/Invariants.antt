-- The copies of the revisions so far.
use Rattle.proof_prelude.proofs.{◌≡◌, take}
use Rattle.journal_lines.specs.Lists.{texts_of}
use Rattle.journal_tasks.proofs.received.copied.Given as goal

abbrev pub invariant-loop-rev : goal.invariant-loop-rev
invariant-loop-rev l = texts_of l.copies.items ≡ texts_of (take l.rev-index l.keys)
