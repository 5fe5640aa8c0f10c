use Rattle.proof_prelude.proofs.{sym, ap, ◌∙◌, subst, length, sum_by}
use Rattle.couch_base.specs.{LawfulDatabase, RowValue, WindowValue}
use Rattle.pool_workers.proofs.{counted_page}
use Rattle.pool_workers.proofs.messages.Found.whole.Goals as goal

pub invariant_of-result : goal.invariant_of-result
invariant_of-result g c =
    let law = subst LawfulDatabase (sym c.requires.source) c.law.ensures.database in
    c.leaf_count-documents.ensures
    ∙ ap (sum_by (λ (row : RowValue). length row.leaves)) (c.rows.ensures.value ∙ ap (λ (w : WindowValue). w.rows) c.window.ensures.value)
    ∙ sym (counted_page _ c.requires.whole.0 g.S.SourceBrand.plan c.args.page c.args.asked law c.window.ensures.page c.requires.whole.1 c.requires.whole.2)
