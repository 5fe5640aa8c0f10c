-- The missing revisions so far.
use Rattle.proof_prelude.proofs.{◌≡◌, filter, take}
use Rattle.journal_lines.specs.Docs.{docs_view}
use Rattle.journal_lines.specs.Lists.{texts_of}
use Rattle.journal_tasks.specs.Documents.{has_rev}
use Rattle.journal_tasks.proofs.lacking.only.Given as goal

abbrev pub invariant-loop-rev : goal.invariant-loop-rev
invariant-loop-rev l = texts_of l.found.items ≡ filter (has_rev (docs_view l.missing) l.id) (texts_of (take l.rev-index l.revs))
