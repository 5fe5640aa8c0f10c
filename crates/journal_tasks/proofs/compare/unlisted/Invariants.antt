-- The leaves so far that are not listed.
use Rattle.proof_prelude.proofs.{◌≡◌, filter, not, take}
use Rattle.journal_lines.specs.Docs.{docs_view}
use Rattle.journal_lines.specs.Lists.{texts_of}
use Rattle.journal_tasks.specs.Documents.{has_rev}
use Rattle.journal_tasks.proofs.compare.unlisted.Given as goal

abbrev pub invariant-loop-rev : goal.invariant-loop-rev
invariant-loop-rev l = texts_of l.found.items ≡ filter (λ rev. not (has_rev (docs_view l.docs) l.id rev)) (texts_of (take l.rev-index l.revs))
