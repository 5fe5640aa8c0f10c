use Rattle.proof_prelude.proofs.{◌≡◌, true, ap, sym, ◌∙◌, arith, slice_get_within, list_any, bytes_eq}
use Rattle.doc_json.specs.Document.{Document}
use Rattle.repl_peer.proofs.{all_later, Among-at}
use Rattle.couch_base.specs.{any_from}
use Rattle.repl_peer.proofs.session.rows.all_have_rows.Goals as goal

pub loop-doc-preserved : goal.loop-doc-preserved
loop-doc-preserved c =
    let rows = c.args.rows.now in
    let here = c.in-Some.ensures.some in
    let found : list_any (λ row. bytes_eq row.id c.doc-item.result.id) rows ≡ true =
    ap (λ i. list_any (λ row. bytes_eq row.id i) rows) (sym c.id.ensures.part) ∙ any_from (λ row. bytes_eq row.id c.id.result.now) here.0 rows (Among-at rows c.in-Some.found here.0 here.1) here.2 in
    let within = slice_get_within rows c.in-Some.found here.0 here.1 in
    record {
      within = omega (arith, within);
      remains = sym (all_later (λ (d : Document). list_any (λ row. bytes_eq row.id d.id) rows) c.args.docs.now c.loop-doc.doc-index c.doc-item.result c.loop-doc-test.true c.doc-item.is found) ∙ c.loop-doc.invariant.remains;
    }
