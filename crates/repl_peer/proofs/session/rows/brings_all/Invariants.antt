use Rattle.proof_prelude.proofs.{◌≡◌, not, drop, find}
use Rattle.couch_base.specs.{DatabaseValue}
use Rattle.repl_peer.specs.{HasDocuments, LedgerIndex, known_of}
use Rattle.repl_peer.proofs.session.rows.brings_all.Given as goal

-- all leaves so far are known
abbrev pub invariant-loop-rev : goal.invariant-loop-rev
invariant-loop-rev l = (db : DatabaseValue) (index : LedgerIndex) → HasDocuments db l.docs
    → find (λ rev. not (known_of db index l.row.id rev)) (drop l.rev-index l.rev-items) ≡ find (λ rev. not (known_of db index l.row.id rev)) l.rev-items
