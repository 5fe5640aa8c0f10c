-- The revisions so far are appended.
use Rattle.proof_prelude.proofs.{◌≡◌, ◌++◌, take}
use Rattle.journal_lines.specs.Lists.{revs_text, texts_of}
use Rattle.journal_lines.proofs.leaves.push_revs.Given as goal

abbrev pub invariant-loop-rev : goal.invariant-loop-rev
invariant-loop-rev l = l.out.items ≡ l.fn.out.items ++ revs_text (texts_of (take l.rev-index l.revs))
