-- Defines lookups in an index of a peer's sessions. The index finds the sessions of a replication, given the
-- replication's id.
use Rattle.std.specs.Prelude.{List, []}
use Rattle.std.specs.Map.{lookup}
use Rattle.std.specs.Option.{option_map_or}
use Rattle.rev_tree.specs.declared.origin.SessionId.{SessionId}
use Rattle.repl_log.specs.declared.replication.RepId.{RepId}
use Rattle.repl_log.specs.RepId.{same_rep}
use Rattle.repl_peer.specs.declared.session.rep_index.RepIndex.{RepIndex}

-- The ids of a replication's sessions in the index, oldest session first.
abbrev pub listed : RepIndex → RepId → List SessionId
listed index rep = option_map_or (λ ids. ids.items) (lookup (same_rep rep) index.ids.entries) []
