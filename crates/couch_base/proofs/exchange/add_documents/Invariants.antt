use Rattle.proof_prelude.proofs.{◌≡◌, ◌++◌, map, take}
use Rattle.couch_base.specs.{leaf_document}
use Rattle.couch_base.proofs.exchange.add_documents.Given as goal

-- the documents of the leaves so far are added
abbrev pub invariant-loop-leaf : goal.invariant-loop-leaf
invariant-loop-leaf l = l.docs.items ≡ l.initial.docs.items ++ map (leaf_document l.id l.tree) (take l.leaf-index l.leaves)
