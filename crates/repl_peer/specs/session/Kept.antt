-- The value that contracts use for a stored window, computed from the form in which the window is stored.
use Rattle.std.specs.Prelude.{true, false}
use Rattle.repl_peer.specs.session.Windows.{StoredWindowValue}
use Rattle.repl_peer.specs.declared.session.window.Kept.{Kept}
use Rattle.repl_peer.specs.declared.session.window.Kept.TheVariants as kept

abbrev pub kept_value : Kept → StoredWindowValue
kept_value (kept.Whole window) = record { window = window; whole = true }
kept_value (kept.Done window) = record { window = window; whole = false }
