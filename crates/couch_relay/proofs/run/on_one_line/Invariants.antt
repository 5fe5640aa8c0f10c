-- The bytes that are copied and those that are left are the text on one line.
use Rattle.proof_prelude.proofs.{◌≡◌, ◌++◌, map, drop}
use Rattle.couch_relay.specs.Runs.{on_line}
use Rattle.couch_relay.proofs.run.on_one_line.Given as goal

abbrev pub invariant-loop-byte : goal.invariant-loop-byte
invariant-loop-byte l = l.line.items ++ map on_line (drop l.byte-index l.byte-items) ≡ map on_line l.byte-items
