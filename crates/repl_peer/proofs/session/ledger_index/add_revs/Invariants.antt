use Rattle.proof_prelude.proofs.{◌≡◌, ◌≤◌, ◌||◌, ◌+◌, take}
use Rattle.rev_core.specs.{RevId, is_among}
use Rattle.indexmap.specs.IndexSet.{spare}
use Rattle.repl_peer.proofs.session.ledger_index.add_revs.Given as goal

-- the revisions so far are added, and there is space for the others
abbrev pub invariant-loop-rev : goal.invariant-loop-rev
invariant-loop-rev l = record {
  added : (r : RevId) → is_among r l.known.keys ≡ (is_among r l.fn.known.keys || is_among r (take l.rev-index l.revs));
  room : l.rev-index-end ≤ spare l.known + l.rev-index;
}
