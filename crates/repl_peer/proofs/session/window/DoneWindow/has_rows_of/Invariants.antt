use Rattle.proof_prelude.proofs.{◌≡◌, drop, list_all}
use Rattle.repl_peer.specs.{has_row}
use Rattle.repl_peer.proofs.session.window.DoneWindow.has_rows_of.Given as goal

-- the remaining documents decide
abbrev pub invariant-loop-doc : goal.invariant-loop-doc
invariant-loop-doc l = list_all (has_row l.self) (drop l.doc-index l.docs) ≡ list_all (has_row l.self) l.docs
