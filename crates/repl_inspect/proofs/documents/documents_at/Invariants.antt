-- The leaves so far are converted to documents.
use Rattle.proof_prelude.proofs.{◌≡◌, map, take}
use Rattle.couch_base.specs.{tree_of, leaf_document}
use Rattle.repl_inspect.proofs.documents.documents_at.Given as goal

abbrev pub invariant-loop-leaf : goal.invariant-loop-leaf
invariant-loop-leaf l = l.found.items ≡ map (leaf_document l.id (tree_of l.database.docs l.id)) (take l.leaf-index l.leaves)
