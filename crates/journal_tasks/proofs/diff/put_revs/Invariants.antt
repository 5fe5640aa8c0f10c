-- The revisions so far are written.
use Rattle.proof_prelude.proofs.{◌≡◌, ◌++◌, map, take}
use Rattle.json.specs.Token.{string}
use Rattle.journal_lines.specs.Lists.{texts_of}
use Rattle.journal_tasks.proofs.diff.put_revs.Given as goal

abbrev pub invariant-loop-rev : goal.invariant-loop-rev
invariant-loop-rev l = record {
  before : l.writer.before ≡ l.fn.writer.before;
  tokens : l.writer.tokens ≡ l.fn.writer.tokens ++ map string (texts_of (take l.rev-index l.revs));
}
