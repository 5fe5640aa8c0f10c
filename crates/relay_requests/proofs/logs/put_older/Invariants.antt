-- What is written and what is left are all entries that are kept.
use Rattle.proof_prelude.proofs.{◌≡◌, ◌++◌, ◌∷◌, [], drop}
use Rattle.relay_core.specs.Views.{entries_view}
use Rattle.relay_requests.specs.Logs.{older_text, thinned}
use Rattle.relay_requests.specs.Kept.{kept_view}
use Rattle.relay_requests.proofs.logs.put_older.Given as goal

abbrev pub invariant-loop-entry : goal.invariant-loop-entry
invariant-loop-entry l =
    l.out.items ++ older_text (thinned (kept_view l.kept.items) (entries_view (drop l.entry-index l.history))) ≡ l.initial.out.items ++ older_text (thinned (kept_view l.initial.kept.items) (entries_view l.history))
