use Rattle.proof_prelude.proofs.{◌≡◌, ◌≤◌, length, drop, list_any, list_all, bytes_eq}
use Rattle.repl_peer.proofs.session.rows.all_have_rows.Given as goal

-- the remaining documents decide
abbrev pub invariant-loop-doc : goal.invariant-loop-doc
invariant-loop-doc l = record {
  within : l.place ≤ length l.rows;
  remains : list_all (λ d. list_any (λ row. bytes_eq row.id d.id) l.rows) (drop l.doc-index l.docs) ≡ list_all (λ d. list_any (λ row. bytes_eq row.id d.id) l.rows) l.docs;
}
