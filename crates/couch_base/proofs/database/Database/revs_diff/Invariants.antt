use Rattle.proof_prelude.proofs.{◌≡◌, ◌++◌, drop}
use Rattle.couch_base.specs.{wanted}
use Rattle.couch_base.proofs.database.Database.revs_diff.Given as goal

-- the requests so far, and those of the other rows, are all of them
abbrev pub invariant-loop-row : goal.invariant-loop-row
invariant-loop-row l = l.docs.items ++ wanted l.self.docs (drop l.row-index l.row-items) ≡ wanted l.self.docs l.row-items
