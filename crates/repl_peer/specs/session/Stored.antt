-- Defines the stored form of a session, and the invariant of a stored session.
use Rattle.std.specs.Prelude.{◌≡◌, ◌≤◌}
use Rattle.range_front.specs.Front.{IsFront, bounds}
use Rattle.repl_log.specs.Counts.{AddUp}
use Rattle.repl_peer.specs.peer.Peer.{SessionValue}
use Rattle.repl_peer.specs.peer.Law.{window_bounds}
use Rattle.repl_peer.specs.session.Windows.{windows_of, IsThinnedWhereDone}
use Rattle.repl_peer.specs.declared.session.Session.TheInside.{Inside}

-- The value that contracts use for a stored session.
abbrev pub session_value : Inside → SessionValue
session_value s = record {
  id = s.id;
  scope = s.scope;
  front = s.front.front;
  windows = windows_of s.windows.items;
  recorded = s.recorded;
  arrivals = s.arrivals.list;
  ledger = s.ledger.items;
  counts = s.counts;
  start_time = s.start_time;
  end_time = s.end_time;
}

-- The part of a stored session's invariant that does not depend on other sessions.
pub record IsSession (s : Inside) : Type 0 where
  pub front : IsFront s.front.front
  pub bounds : window_bounds (windows_of s.windows.items) ≡ bounds s.front.front
  pub start : s.front.front.start ≤ s.recorded
  pub read : AddUp s.counts
  -- If the session stores a window without the leaves of the window's rows, the window is done.
  pub thinned : IsThinnedWhereDone s.front.front s.windows.items
