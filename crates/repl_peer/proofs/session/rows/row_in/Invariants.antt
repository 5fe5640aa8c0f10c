use Rattle.proof_prelude.proofs.{◌≡◌, false, take, list_any, bytes_eq}
use Rattle.repl_peer.proofs.session.rows.row_in.Given as goal

-- none of the rows so far has the id
abbrev pub invariant-loop-i : goal.invariant-loop-i
invariant-loop-i l = list_any (λ row. bytes_eq row.id l.id) (take l.i l.rows) ≡ false
