-- The stored leaves and those that are left are all leaves.
use Rattle.proof_prelude.proofs.{◌≡◌, drop, map}
use Rattle.journal_lines.specs.Docs.{docs_view}
use Rattle.journal_lines.specs.Lists.{texts_of}
use Rattle.journal_tasks.specs.Documents.{add_leaves}
use Rattle.journal_tasks.proofs.diff.add_all.Given as goal

abbrev pub invariant-loop-rev : goal.invariant-loop-rev
invariant-loop-rev l =
    add_leaves (docs_view l.docs) (map (λ rev. (l.id, rev)) (texts_of (drop l.rev-index l.revs))) ≡ add_leaves (docs_view l.fn.docs) (map (λ rev. (l.id, rev)) (texts_of l.revs))
