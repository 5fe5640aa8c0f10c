-- The revisions of the ancestry so far are appended.
use Rattle.proof_prelude.proofs.{◌≡◌, ◌++◌, take}
use Rattle.journal_lines.specs.Lists.{texts_of}
use Rattle.journal_tasks.specs.{ancestry, comma_text}
use Rattle.journal_tasks.proofs.conflicts.push_ancestry.Given as goal

abbrev pub invariant-loop-index : goal.invariant-loop-index
invariant-loop-index l = l.text.items ≡ l.fn.text.items ++ comma_text (ancestry l.leaf.start (texts_of (take l.index l.leaf.names.items)))
