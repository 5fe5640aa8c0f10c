-- The remaining members have an `_id` exactly if the object has one.
use Rattle.proof_prelude.proofs.{◌≡◌, [], codes, drop, length}
use Rattle.std.specs.List.{list_any}
use Rattle.doc_envelope.specs.{has_name, members_in}
use Rattle.doc_envelope.specs.Members.{Outside}
use Rattle.doc_envelope.proofs.envelope.has_id.Given as goal

abbrev pub invariant-loop-rest : goal.invariant-loop-rest
invariant-loop-rest l =
    list_any (λ m. has_name m (codes "\"_id\"")) (members_in Outside 0 [] l.rest)
    ≡ list_any (λ m. has_name m (codes "\"_id\"")) (members_in Outside 0 [] (drop 1 l.document))

abbrev pub decreases-loop-rest : goal.decreases-loop-rest
decreases-loop-rest l = length l.rest
