-- The revisions so far, each once.
use Rattle.proof_prelude.proofs.{◌≡◌, take}
use Rattle.journal_lines.specs.Lists.{texts_of}
use Rattle.journal_responses.specs.Pages.{each_once}
use Rattle.journal_responses.proofs.page.each_once.Given as goal

abbrev pub invariant-loop-rev : goal.invariant-loop-rev
invariant-loop-rev l = texts_of l.once.items ≡ each_once (texts_of (take l.rev-index l.revs))
