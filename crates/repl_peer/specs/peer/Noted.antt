-- Defines the list of writes that the ghost value of a list of writes (`GhostWrites`) has.
use Rattle.std.specs.Prelude.{List, [], ◌∷◌, ◌++◌}
use Rattle.repl_peer.specs.peer.Peer.{WrittenValue}
use Rattle.repl_peer.specs.declared.peer.ghost_writes.Noted.{Noted}
use Rattle.repl_peer.specs.declared.peer.ghost_writes.Noted.TheVariants as noted

-- The writes that `GhostWrites::of` notes.
abbrev pub noted_writes : Noted → List WrittenValue
noted_writes noted.Nothing = []
noted_writes (noted.Again earlier) = earlier.now.list
noted_writes (noted.More earlier id revs) = earlier.now.list ++ record { id = id.now; ancestry = revs.now } ∷ []
