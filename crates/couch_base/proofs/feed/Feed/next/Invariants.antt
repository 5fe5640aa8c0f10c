use Rattle.proof_prelude.proofs.{◌≡◌, drop}
use Rattle.couch_base.specs.{live_upto, InOrder}
use Rattle.couch_base.proofs.feed.Feed.next.Given as goal

-- the rows so far are not live
abbrev pub invariant-loop-i : goal.invariant-loop-i
invariant-loop-i l = record {
  same : l.self-inside ≡ l.initial.self-inside;
  left : live_upto l.self-inside.table.now.entries l.self-inside.goal (drop l.i l.self-inside.rest.now)
      ≡ live_upto l.self-inside.table.now.entries l.self-inside.goal l.self-inside.rest.now;
  order : InOrder (drop l.i l.self-inside.rest.now);
}
