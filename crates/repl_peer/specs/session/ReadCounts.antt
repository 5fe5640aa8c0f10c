-- Defines a session's count of documents read, and the amount that settling adds to this count, as specified in
-- docs/PROFILE.md, "Settling".
use Rattle.std.specs.Prelude.{ℕ, List, Option, Some, None, Result, Ok, Err}
use Rattle.rev_tree.specs.declared.origin.SessionId.{SessionId}
use Rattle.repl_peer.specs.peer.Peer.{SessionValue, session_in}
use Rattle.repl_peer.specs.declared.fault.Settled.{Settled}
use Rattle.repl_peer.specs.declared.fault.TargetFault.{TargetFault}
use Rattle.repl_peer.specs.declared.fault.TargetFault.TheVariants as faults

-- The number of documents that a session has read, or 0 if there is no session.
abbrev pub read_of : Option SessionValue → ℕ
read_of None = 0
read_of (Some s) = s.counts.read

abbrev pub read_in : List SessionValue → SessionId → ℕ
read_in sessions id = read_of (session_in sessions id)

-- The number that is added to a session's count of read documents when the session settles a parcel of n documents. The
-- added number is n if all n documents were settled, m if settling stopped after m documents, and 0 after any other
-- error.
abbrev pub taken : Result Settled TargetFault → ℕ → ℕ
taken (Ok settled) n = n
taken (Err (faults.Uncovered seq id rev)) n = n
taken (Err (faults.Stopped m rest cause)) n = m
taken (Err fault) n = 0
