use Rattle.proof_prelude.proofs.{◌≡◌, ◌+◌, ◌&&◌, ◌∷◌, List, drop, sym, ap, ◌∙◌}
use Rattle.relay_core.specs.declared.messages.DocLeaves.{DocLeaves}
use Rattle.relay_core.specs.Views.{doc_view, docs_view}
use Rattle.relay_core.specs.Leaves.{are_distinct}
use Rattle.relay_core.proofs.Lists.{at_drop}
use Rattle.relay_core.proofs.LeafSets.{are_new, are_distinct-first, are_distinct-next}
use Rattle.relay_core.proofs.leaf_set.are_distinct.Goals as goal

pub loop-doc-init : goal.loop-doc-init
loop-doc-init c = are_distinct-first c.new-known.result.keys (docs_view c.args.docs.now) c.new-known.ensures.empty

pub loop-doc-preserved : goal.loop-doc-preserved
loop-doc-preserved c =
    let docs : List DocLeaves = c.args.docs.now in
    are_distinct-next c.loop-doc.known.keys c.insert.new.self.keys c.as_str.result (doc_view c.doc-item.result) (docs_view (drop (c.loop-doc.doc-index + 1) docs)) _
    c.as_str.ensures.value c.in_ok-insert.ensures.keys (sym c.in_ok-insert.ensures.added ∙ c.if-not-branch.false)
    (ap (λ (ds : List DocLeaves). are_distinct (docs_view ds) && are_new c.loop-doc.known.keys (docs_view ds)) (sym (at_drop docs c.loop-doc.doc-index c.doc-item.result c.loop-doc-test.true c.doc-item.is))
    ∙ c.loop-doc.invariant)
