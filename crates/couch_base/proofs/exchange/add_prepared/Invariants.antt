use Rattle.proof_prelude.proofs.{◌++◌, List, map, take}
use Rattle.doc_json.specs.Document.{Document}
use Rattle.couch_base.specs.{AreMadeAll, leaf_document}
use Rattle.couch_base.proofs.exchange.add_prepared.Given as goal

-- the items of the leaves so far
abbrev pub invariant-loop-leaf : goal.invariant-loop-leaf
invariant-loop-leaf l = (docs : List Document) → AreMadeAll docs l.initial.made.items
    → AreMadeAll (docs ++ map (leaf_document l.id l.tree) (take l.leaf-index l.leaves)) l.made.items
