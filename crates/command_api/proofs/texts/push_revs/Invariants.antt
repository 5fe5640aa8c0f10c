-- The texts of the revisions so far have been added.
use Rattle.proof_prelude.proofs.{◌≡◌, ◌++◌, take}
use Rattle.command_api.specs.{texts_of_revs}
use Rattle.command_api.proofs.texts.push_revs.Given as goal

abbrev pub invariant-loop-i : goal.invariant-loop-i
invariant-loop-i l = l.text.items ≡ l.fn.text.items ++ texts_of_revs (take l.i l.revs)
