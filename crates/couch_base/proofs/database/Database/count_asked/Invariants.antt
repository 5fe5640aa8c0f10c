use Rattle.proof_prelude.proofs.{◌≡◌, ◌+◌, ◌*◌, ◌^◌, ◌≤◌, drop, length}
use Rattle.couch_base.specs.{fetched}
use Rattle.couch_base.proofs.database.Database.count_asked.Given as goal

-- the count so far, plus that of the other documents, is the total; each document counts less than 2 ^ 64
abbrev pub invariant-loop-wanted : goal.invariant-loop-wanted
invariant-loop-wanted l = record {
  all : l.count + length (fetched l.self.docs (drop l.wanted-index l.wanted-items)) ≡ length (fetched l.self.docs l.wanted-items);
  fits : l.count ≤ l.wanted-index * 2 ^ 64;
}
