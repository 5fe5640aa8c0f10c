-- The leaves that are known and those that are left are all leaves.
use Rattle.proof_prelude.proofs.{◌≡◌, drop}
use Rattle.relay_core.specs.Views.{texts_of}
use Rattle.relay_responses.specs.Maps.{texts_in}
use Rattle.relay_responses.specs.Pages.{add_revs}
use Rattle.relay_responses.proofs.pages.add_revs.Given as goal

abbrev pub invariant-loop-rev : goal.invariant-loop-rev
invariant-loop-rev l =
    add_revs (texts_in l.known.keys) (texts_of (drop l.rev-index l.revs)) ≡ add_revs (texts_in l.fn.known.keys) (texts_of l.revs)
