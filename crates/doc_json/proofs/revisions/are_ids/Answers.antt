use Rattle.proof_prelude.proofs.{map, length, arith, sym, ◌∙◌}
use Rattle.serde_json.specs.View.{items_of}
use Rattle.doc_json.specs.{sigs_of}
use Rattle.doc_json.proofs.{ids_test, sigs_count}
use Rattle.doc_json.proofs.revisions.are_ids.Goals as goal

pub returns-then-count-ge1 : goal.returns-then-count-ge1
returns-then-count-ge1 g c =
    let ids = c.args.ids.now in
    ids_test c.args.start (length ids) (sigs_of (items_of (map g.V.JsonValue.seen ids))) (sym c.are_sigs.ensures ∙ c.if-not-are_sigs.false) (λ sigs e. sigs_count g.V.JsonValue.seen ids sigs e) (omega arith) (omega arith)
