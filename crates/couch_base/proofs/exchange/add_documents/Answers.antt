use Rattle.proof_prelude.proofs.{[], ◌∷◌, ◌++◌, ap, ◌∙◌, arith}
use Rattle.rev_tree.specs.{is_leaf}
use Rattle.doc_json.specs.Document.{Document}
use Rattle.couch_base.specs.{leaf_document}
use Rattle.couch_base.proofs.{one_more_of, all_at}
use Rattle.couch_base.proofs.exchange.add_documents.Goals as goal

pub leaf_document-requires-clause-leaf : goal.leaf_document-requires-clause-leaf
leaf_document-requires-clause-leaf c =
    ap (is_leaf c.args.tree.now) c.leaf-item.is ∙ all_at (is_leaf c.args.tree.now) c.args.leaves.now c.loop-leaf.leaf-index _ (omega arith) c.requires.leaves

pub loop-leaf-preserved : goal.loop-leaf-preserved
loop-leaf-preserved c =
    let l = c.loop-leaf in
    c.in_ok-push.ensures.items ∙ ap (λ (d : Document). l.docs.items ++ d ∷ []) c.in_ok-doc.ensures.document
    ∙ one_more_of (leaf_document c.args.id.now c.args.tree.now) c.args.leaves.now c.args.docs.now.items l.docs.items l.leaf-index c.leaf-item.result (omega arith) c.leaf-item.is l.invariant
