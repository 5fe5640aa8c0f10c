use Rattle.proof_prelude.proofs.{◌≡◌, ◌++◌, drop}
use Rattle.couch_base.specs.{AreMadeAll, fetched, gone_of}
use Rattle.couch_base.proofs.database.Database.open_asked.Given as goal

-- what is fetched and gone so far, and that of the other documents, are all of it
abbrev pub invariant-loop-wanted : goal.invariant-loop-wanted
invariant-loop-wanted l = record {
  docs : l.docs.items ++ fetched l.self.docs (drop l.wanted-index l.wanted-items) ≡ fetched l.self.docs l.wanted-items;
  made : AreMadeAll l.docs.items l.made.items;
  gone : l.gone.items ++ gone_of l.self.docs (drop l.wanted-index l.wanted-items) ≡ gone_of l.self.docs l.wanted-items;
}
