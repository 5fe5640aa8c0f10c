use Rattle.proof_prelude.proofs.{◌≡◌, ◌-◌, ◌≤◌, [], option_copied}
use Rattle.crossbeam_channel.specs.Claims.{view, IsSeatAt}
use Rattle.crossbeam_channel.specs.Ends.{sends_on}
use Rattle.pool_workers.specs.{window_view, Keeps}
use Rattle.pool_workers.proofs.context.Context.read_in_turn.Given as goal

abbrev pub invariant-loop-since : goal.invariant-loop-since
invariant-loop-since g l = record {
  seat : IsSeatAt (sends_on l.self.channels.now.to_fetchers) l.windows;
  read : view l.windows ≡ window_view (view l.initial.windows).parts 1 l.number [];
  below : l.number ≤ l.since;
  goal : l.goal ≡ l.self.source.now.1.db.update_seq;
  keeps : Keeps l.self.channels.now (option_copied l.self.board) (g.G.Gate.may_stop l.self.gate.now) l.initial.worker l.worker;
}

abbrev pub decreases-loop-since : goal.decreases-loop-since
decreases-loop-since g l = l.goal - l.since
