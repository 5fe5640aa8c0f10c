-- Defines positions in a changes feed, as specified in docs/PROFILE.md, "Changes feed".
use Rattle.std.specs.Prelude.{ℕ, List, [], Option, Some, None}
use Rattle.couch_base.specs.Database.{DatabaseValue}
use Rattle.couch_base.specs.Feed.{RowValue, chosen_feed}
use Rattle.repl_peer.specs.peer.Peer.{PeerValue}
use Rattle.script_databases.specs.Databases.{State, peer_at}
use Rattle.read_commands.specs.declared.feed.Walk.{Walk}

-- The rows of the selected changes feed after a reader's position, up to the update sequence.
abbrev pub rows_left : DatabaseValue → Walk → List RowValue
rows_left db w = chosen_feed w.chosen db w.since db.update_seq

-- All rows of the selected changes feed up to the update sequence, regardless of the reader's position.
abbrev pub rows_walked : DatabaseValue → Walk → List RowValue
rows_walked db w = chosen_feed w.chosen db 0 db.update_seq

-- The text that function `text` returns for a database, or the empty text if the database does not exist.
abbrev pub left_in : Option PeerValue → (PeerValue → List ℕ) → List ℕ
left_in None text = []
left_in (Some l) text = text l

-- The database does not exist, or has the property `holds`.
abbrev pub holds_in : Option PeerValue → (PeerValue → Type 0) → Type 0
holds_in None holds = Unit {0}
holds_in (Some l) holds = holds l
