-- The documents that are read and those that are left are all documents.
use Rattle.proof_prelude.proofs.{◌≡◌, drop}
use Rattle.relay_core.specs.Views.{docs_view}
use Rattle.relay_responses.specs.Read.{prepend}
use Rattle.relay_responses.specs.Maps.{values_in}
use Rattle.relay_responses.specs.Diffs.{each_missing}
use Rattle.relay_responses.proofs.diffs.each_missing.Given as goal

abbrev pub invariant-loop-i : goal.invariant-loop-i
invariant-loop-i l =
    prepend (docs_view l.docs.items) (each_missing (values_in (drop l.i l.members.entries))) ≡ each_missing (values_in l.members.entries)
