use Rattle.proof_prelude.proofs.{◌≡◌, drop}
use Rattle.relay_core.specs.Views.{entries_view}
use Rattle.relay_core.specs.Justified.{has_pair}
use Rattle.relay_core.proofs.logs.has_pair.Given as goal

abbrev pub invariant-loop-entry : goal.invariant-loop-entry
invariant-loop-entry l = has_pair (entries_view (drop l.entry-index l.entry-items)) l.session l.seq ≡ has_pair (entries_view l.entry-items) l.session l.seq
