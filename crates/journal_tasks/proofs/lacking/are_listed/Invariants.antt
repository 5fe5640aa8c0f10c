-- The leaves so far are listed.
use Rattle.proof_prelude.proofs.{◌≡◌, drop, list_all}
use Rattle.journal_lines.specs.Docs.{docs_view}
use Rattle.journal_lines.specs.Lists.{texts_of}
use Rattle.journal_tasks.specs.Documents.{has_rev}
use Rattle.journal_tasks.proofs.lacking.are_listed.Given as goal

abbrev pub invariant-loop-rev : goal.invariant-loop-rev
invariant-loop-rev l = list_all (has_rev (docs_view l.docs) l.id) (texts_of (drop l.rev-index l.revs)) ≡ list_all (has_rev (docs_view l.docs) l.id) (texts_of l.revs)
