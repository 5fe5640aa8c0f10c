-- The rest has the same text after its blanks.
use Rattle.proof_prelude.proofs.{◌≡◌, length}
use Rattle.doc_envelope.specs.{trimmed}
use Rattle.doc_envelope.proofs.names.trimmed.Given as goal

abbrev pub invariant-loop-rest : goal.invariant-loop-rest
invariant-loop-rest l = trimmed l.rest ≡ trimmed l.text

abbrev pub decreases-loop-rest : goal.decreases-loop-rest
decreases-loop-rest l = length l.rest
