use Rattle.proof_prelude.proofs.{◌≡◌, ◌||◌, ◌&&◌, ◌+◌, ◌∷◌, List, Bor, String, Global, drop, bytes_eq, string_bytes, sym, ap, ap₂, ◌∙◌}
use Rattle.relay_core.specs.Messages.{Text}
use Rattle.relay_core.specs.Views.{texts_of}
use Rattle.relay_core.specs.Leaves.{has_text}
use Rattle.relay_core.specs.LeafSets.{has_leaf}
use Rattle.relay_core.proofs.Lists.{at_drop}
use Rattle.relay_core.proofs.LeafSets.{has_leaf-insert, add_leaves-next}
use Rattle.relay_core.proofs.leaf_set.add_leaves.Goals as goal

pub loop-rev-preserved : goal.loop-rev-preserved
loop-rev-preserved c = λ id leaf.
    let key : Text = string_bytes c.args.doc.now.id in
    let revs : List (String Global) = c.deref-rev-items.result.now in
    let old : List (Bor Text × Bor Text) = c.loop-rev.leaves.keys in
    add_leaves-next id key leaf (string_bytes c.rev-item.result) (texts_of (drop (c.loop-rev.rev-index + 1) revs)) (has_leaf old id leaf) (has_leaf c.insert.new.self.keys id leaf) _
    (ap (λ (ks : List (Bor Text × Bor Text)). has_leaf ks id leaf) c.in_ok-insert.ensures.keys
    ∙ has_leaf-insert old (c.as_str.result, c.as_str-in-loop-rev.result) id leaf
    ∙ ap₂ (λ (a b : Text). has_leaf old id leaf || (bytes_eq a id && bytes_eq b leaf)) c.as_str.ensures.value c.as_str-in-loop-rev.ensures.value)
    (ap (λ (rs : List (String Global)). has_leaf old id leaf || (bytes_eq key id && has_text (texts_of rs) leaf)) (sym (at_drop revs c.loop-rev.rev-index c.rev-item.result c.loop-rev-test.true c.rev-item.is))
    ∙ c.loop-rev.invariant id leaf)
