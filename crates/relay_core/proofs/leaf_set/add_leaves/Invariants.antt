-- The leaves that are added and those that are left are all leaves.
use Rattle.proof_prelude.proofs.{◌≡◌, ◌||◌, ◌&&◌, drop, bytes_eq, string_bytes}
use Rattle.relay_core.specs.Messages.{Text}
use Rattle.relay_core.specs.Views.{texts_of}
use Rattle.relay_core.specs.Leaves.{has_text}
use Rattle.relay_core.specs.LeafSets.{has_leaf}
use Rattle.relay_core.proofs.leaf_set.add_leaves.Given as goal

abbrev pub invariant-loop-rev : goal.invariant-loop-rev
invariant-loop-rev l = (id leaf : Text)
    → (has_leaf l.leaves.keys id leaf || (bytes_eq (string_bytes l.doc.id) id && has_text (texts_of (drop l.rev-index l.rev-items)) leaf))
    ≡ (has_leaf l.fn.leaves.keys id leaf || (bytes_eq (string_bytes l.doc.id) id && has_text (texts_of l.rev-items) leaf))
