use Rattle.proof_prelude.proofs.{◌≡◌, ◌+◌, ◌≤◌, None, IfSome, length}
use Rattle.pool_workers.proofs.context.Context.read_ahead.Given as goal

-- the pages so far were read in order, and the plan allows them
abbrev pub invariant-loop-further : goal.invariant-loop-further
invariant-loop-further g l = record {
  pages : length l.ahead.pages.items ≡ l.further;
  copies : length l.ahead.copies.items ≡ l.further;
  first : l.further ≡ 0 → l.ahead.hi ≡ l.since;
  moved : l.since + l.further ≤ l.ahead.hi;
  allowed : IfSome l.self.plan.now.stop_after (λ limit. l.number + l.further ≤ limit);
  free : l.ahead.stopped ≡ None;
  goal : l.goal ≡ l.self.source.now.1.db.update_seq;
}
