-- The documents that are copied and those that are left are all documents.
use Rattle.proof_prelude.proofs.{◌≡◌, ◌++◌, drop}
use Rattle.relay_core.specs.Views.{docs_view}
use Rattle.relay_responses.specs.Maps.{docs_in}
use Rattle.relay_responses.proofs.pages.copied_docs.Given as goal

abbrev pub invariant-loop-i : goal.invariant-loop-i
invariant-loop-i l = docs_view l.copies.items ++ docs_in (drop l.i l.docs.entries) ≡ docs_in l.docs.entries
