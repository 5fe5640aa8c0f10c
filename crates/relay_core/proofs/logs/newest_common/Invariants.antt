use Rattle.proof_prelude.proofs.{◌≡◌, drop}
use Rattle.relay_core.specs.Views.{entries_view}
use Rattle.relay_core.specs.Justified.{newest_common}
use Rattle.relay_core.proofs.logs.newest_common.Given as goal

abbrev pub invariant-loop-entry : goal.invariant-loop-entry
invariant-loop-entry l = newest_common (entries_view (drop l.entry-index l.entry-items)) (entries_view l.source.history.items) ≡ newest_common (entries_view l.entry-items) (entries_view l.source.history.items)
