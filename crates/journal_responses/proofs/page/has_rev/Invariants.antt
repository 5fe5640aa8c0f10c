-- The revision is none of those so far.
use Rattle.proof_prelude.proofs.{◌≡◌, bytes_eq, drop, list_any}
use Rattle.journal_lines.specs.Lists.{texts_of}
use Rattle.journal_responses.proofs.page.has_rev.Given as goal

abbrev pub invariant-loop-known : goal.invariant-loop-known
invariant-loop-known l = list_any (bytes_eq l.rev) (texts_of l.revs) ≡ list_any (bytes_eq l.rev) (texts_of (drop l.known-index l.revs))
