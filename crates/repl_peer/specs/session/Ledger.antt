-- Defines how a ledger row stores the reason why a document is in the ledger.
use Rattle.repl_peer.specs.declared.fault.Reason.{Reason}
use Rattle.repl_peer.specs.declared.fault.Reason.TheVariants as reasons
use Rattle.repl_peer.specs.declared.session.refused.StoredReason.{StoredReason}
use Rattle.repl_peer.specs.declared.session.refused.StoredReason.TheVariants as stored

-- The reason of a ledger row, computed from the form in which the row stores the reason.
abbrev pub reason_of : StoredReason → Reason
reason_of stored.Filtered = reasons.Filtered
reason_of (stored.Contradicting block) = block.value
