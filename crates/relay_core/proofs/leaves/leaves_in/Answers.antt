use Rattle.proof_prelude.proofs.{Bool}
use Rattle.relay_core.specs.Messages.{Text}
use Rattle.relay_core.specs.Views.{texts_of, docs_view}
use Rattle.relay_core.specs.LeafSets.{has_leaf}
use Rattle.relay_core.proofs.Lists.{one_more}
use Rattle.relay_core.proofs.leaves.leaves_in.Goals as goal

pub loop-doc-preserved : goal.loop-doc-preserved
loop-doc-preserved c =
    let p : Text → Text → Bool = λ id leaf. has_leaf c.args.leaves.now.keys id leaf in
    one_more p c.args.docs.now c.loop-doc.doc-index c.doc-item.result (docs_view c.loop-doc.kept.items) (docs_view c.push_doc.new.docs.items) _
    c.as_str-in-loop-doc.result.now c.as_str.result.now (texts_of c.in_ok-revs.revs.items)
    c.loop-doc-test.true c.doc-item.is c.as_str-in-loop-doc.ensures.value c.as_str.ensures.value c.in_ok-revs.ensures c.in_ok-push_doc.ensures c.loop-doc.invariant
