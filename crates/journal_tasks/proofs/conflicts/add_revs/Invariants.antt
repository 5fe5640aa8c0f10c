-- The revision, and the revisions of the ancestry so far, are stored.
use Rattle.proof_prelude.proofs.{◌≡◌, ◌∷◌, fold, string_bytes, take}
use Rattle.journal_lines.specs.Docs.{add_rev}
use Rattle.journal_lines.specs.Lists.{texts_of}
use Rattle.journal_tasks.specs.{ancestry}
use Rattle.journal_tasks.proofs.conflicts.add_revs.Given as goal

abbrev pub invariant-loop-index : goal.invariant-loop-index
invariant-loop-index l =
    texts_of l.revs.keys ≡ fold add_rev (texts_of l.fn.revs.keys) (string_bytes l.leaf.rev ∷ ancestry l.leaf.start (texts_of (take l.index l.leaf.names.items)))
