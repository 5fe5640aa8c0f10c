-- The bytes that were read are pending, and each turn called the reader once, without a failure.
use Rattle.proof_prelude.proofs.{◌≡◌, ◌≤◌}
use Rattle.couch_relay.specs.Inbox.{pending, IsInbox, Filled}
use Rattle.couch_relay.proofs.inbox.Inbox.line.Given as goal

abbrev pub invariant-loop-turn : goal.invariant-loop-turn
invariant-loop-turn g l =
    let R = g.R.ScriptRead in
    record {
      inbox : IsInbox l.self;
      filled : Filled (R.taken l.fn.reader) (R.taken l.reader) (pending l.fn.self) (pending l.self);
      reads : l._turn ≤ R.reads l.reader;
      unfailing : R.failures l.reader ≡ R.failures l.fn.reader;
    }
