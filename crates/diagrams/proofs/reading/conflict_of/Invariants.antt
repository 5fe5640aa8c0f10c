use Rattle.proof_prelude.proofs.{◌≡◌, [], drop, string_bytes}
use Rattle.diagrams.specs.Drawing.{states, with_all}
use Rattle.diagrams.proofs.reading.conflict_of.Given as goal

abbrev pub invariant-loop-i : goal.invariant-loop-i
invariant-loop-i l = (with_all (states l.document) (drop l.i l.revs) ≡ with_all [] l.revs) × (string_bytes l.document.id ≡ string_bytes l.fn.id)
