-- The exchanges so far are a run, each with a request of at least one byte, and neither the reader nor the writer failed.
use Rattle.proof_prelude.proofs.{◌≡◌}
use Rattle.couch_relay.specs.Inbox.{pending, IsInbox}
use Rattle.couch_relay.proofs.Counts.{Sent}
use Rattle.couch_relay.proofs.Running.{Going}
use Rattle.couch_relay.proofs.run.make_requests.Given as goal

abbrev pub invariant-loop-turn : goal.invariant-loop-turn
invariant-loop-turn g l =
    let R = g.R.ScriptRead in
    let W = g.W.ScriptWrite in
    record {
      inbox : IsInbox l.inbox;
      going : Going l.requests (R.taken l.fn.reader) (R.taken l.reader) (W.held l.fn.writer) (W.held l.writer) (pending l.fn.inbox) (pending l.inbox) l.phase;
      sent : Sent (W.held l.fn.writer) (W.held l.writer) l._turn;
      reader_unfailing : R.failures l.reader ≡ R.failures l.fn.reader;
      writer_unfailing : W.failures l.writer ≡ W.failures l.fn.writer;
    }
