use Rattle.proof_prelude.proofs.{◌≡◌, ◌-◌, ◌<◌, ◌≤◌, []}
use Rattle.crossbeam_channel.specs.Claims.{view, IsSeatAt}
use Rattle.crossbeam_channel.specs.Ends.{sends_on}
use Rattle.pool_workers.specs.{window_view}
use Rattle.pool_workers.proofs.context.Context.read_windows.Given as goal

abbrev pub invariant-loop-since : goal.invariant-loop-since
invariant-loop-since g l = record {
  seat : IsSeatAt (sends_on l.self.channels.now.to_fetchers) l.windows;
  read : view l.windows ≡ window_view (view l.initial.windows).parts 1 l.number [];
  below : l.number ≤ l.since;
  some : 0 < l.most;
  goal : l.goal ≡ l.self.source.now.1.db.update_seq;
}

abbrev pub decreases-loop-since : goal.decreases-loop-since
decreases-loop-since g l = l.goal - l.since
