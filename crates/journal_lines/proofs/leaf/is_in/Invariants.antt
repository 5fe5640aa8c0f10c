-- The revision is none of the names so far.
use Rattle.proof_prelude.proofs.{◌≡◌, drop}
use Rattle.journal_lines.specs.Lists.{texts_of}
use Rattle.journal_lines.specs.Leafs.{knows_at}
use Rattle.journal_lines.proofs.leaf.is_in.Given as goal

abbrev pub invariant-loop-name : goal.invariant-loop-name
invariant-loop-name l = knows_at l.rev l.start (texts_of l.names) ≡ knows_at l.rev l.number (texts_of (drop l.name-index l.names))
