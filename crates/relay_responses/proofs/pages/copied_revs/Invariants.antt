-- The leaves that are copied and those that are left are all leaves.
use Rattle.proof_prelude.proofs.{◌≡◌, ◌++◌, drop}
use Rattle.relay_core.specs.Views.{texts_of}
use Rattle.relay_responses.specs.Maps.{texts_in}
use Rattle.relay_responses.proofs.pages.copied_revs.Given as goal

abbrev pub invariant-loop-rev : goal.invariant-loop-rev
invariant-loop-rev l = texts_of l.copies.items ++ texts_in (drop l.rev-index l.revs) ≡ texts_in l.revs
