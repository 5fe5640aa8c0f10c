use Rattle.proof_prelude.proofs.{◌≡◌, true, sym, ◌∙◌, list_any, bytes_eq}
use Rattle.couch_base.specs.{RowValue}
use Rattle.repl_peer.specs.{has_row}
use Rattle.repl_peer.proofs.{all_later}
use Rattle.repl_peer.proofs.session.window.DoneWindow.has_rows_of.Goals as goal

pub loop-doc-preserved : goal.loop-doc-preserved
loop-doc-preserved c =
    let w = c.args.self.now in
    let found : has_row w c.doc-item.result ≡ true = (λ i. list_any (λ (row : RowValue). bytes_eq row.id (sym c.id.ensures.part i)) w.rows) ∙ sym c.has_row_of.ensures ∙ c.if-not-has_row_of.false in
    sym (all_later (has_row w) c.args.docs.now c.loop-doc.doc-index c.doc-item.result c.loop-doc-test.true c.doc-item.is found) ∙ c.loop-doc.invariant
