use Rattle.proof_prelude.proofs.{ap, ap₂, ◌∙◌, map}
use Rattle.journal_lines.specs.Docs.{add_rev}
use Rattle.journal_lines.specs.Leafs.{leaf_view}
use Rattle.journal_lines.specs.Lists.{texts_of}
use Rattle.journal_tasks.specs.Receiving.{received_by, wanted_view}
use Rattle.journal_tasks.proofs.{texts_added}
use Rattle.journal_tasks.proofs.received.with_leaf.Goals as goal

pub returns : goal.returns
returns c =
    ap₂ (λ x y. (x, y)) (c.in_ok-wanted.ensures ∙ ap (λ z. map (received_by (leaf_view c.args.leaf.now)) (map wanted_view z)) c.as_slice.ensures.value)
    (ap texts_of c.in_ok-insert.ensures.keys ∙ texts_added c.args.doc.leaves.keys c.in_ok-from_str.field-0 ∙ ap (add_rev (texts_of c.args.doc.leaves.keys)) (c.in_ok-from_str.ensures.ok ∙ c.as_str.ensures.value))
