-- Defines the rows that describe a session's ledger, as specified in docs/PROFILE.md, "Settling".
use Rattle.std.specs.Prelude.{◌≡◌}
use Rattle.rev_core.specs.Ancestry.{head_of}
use Rattle.std.specs.Prelude.{Some}
use Rattle.repl_peer.specs.peer.Peer.{RefusedValue}
use Rattle.repl_peer.specs.declared.fault.Reason.TheVariants as reasons
use Rattle.repl_inspect.specs.declared.ledger.LedgerRow.{LedgerRow}
use Rattle.repl_inspect.specs.declared.ledger.LedgerRow.TheVariants as rows

-- The row that explains why a document is in a session's ledger. If the filter refused the document, the row has the
-- document's newest revision. If the document's ancestry contradicts the tree, the row has the newest revision whose
-- parents in tree and ancestry differ. The row of a contradiction also has both parents of this revision: first the
-- parent in the tree, then the parent in the ancestry.
abbrev pub Says : RefusedValue → LedgerRow → Type 0
Says x (rows.Denied rev) = (x.reason ≡ reasons.Filtered) × (head_of x.doc.ancestry ≡ Some rev)
Says x (rows.Contradicted rev known given) = x.reason ≡ reasons.Contradicting rev known given
