use Rattle.proof_prelude.proofs.{◌≡◌, ◌≤◌, ◌+◌, Some, length, drop, slice_get}
use Rattle.couch_base.specs.{most, AreMade, WindowValue}
use Rattle.repl_peer.specs.{LedgerIndex, Reached, IndexesMore, settling_at}
use Rattle.repl_peer.proofs.session.settle.settle_each.Given as goal

-- the documents before this one are settled
abbrev pub invariant-loop-i : goal.invariant-loop-i
invariant-loop-i g l = record {
  reached : (w : WindowValue) → slice_get l.fn.session.windows l.place ≡ Some w
      → Reached (g.F.WriteFilter.refuses l.filter) w (settling_at l.fn.db l.fn.session) l.docs l.i (drop l.i l.docs) (settling_at l.db l.session);
  row : (w : WindowValue) → slice_get l.fn.session.windows l.place ≡ Some w → l.row ≤ length w.rows;
  made : AreMade l.docs l.made.items;
  room : l.session.counts.read + length l.docs ≤ most + l.i;
  front : l.session.front ≡ l.fn.session.front;
  windows : l.session.windows ≡ l.fn.session.windows;
  indexed : (base : LedgerIndex) → IndexesMore base l.fn.session.ledger l.fn.ledgered → IndexesMore base l.session.ledger l.ledgered;
}
