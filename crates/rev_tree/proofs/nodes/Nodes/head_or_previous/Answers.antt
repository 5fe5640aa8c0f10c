use Rattle.proof_prelude.proofs.{sym, ◌∙◌, false≢true}
use Rattle.rev_tree.proofs.{after_head, after_stays}
use Rattle.rev_tree.proofs.nodes.Nodes.head_or_previous.Goals as goal
use Rattle.rev_tree.proofs.nodes.Nodes.head_or_previous.Goals.{then-not-has_child+else-goes_before, else-not-has_child}

pub returns-then-goes_before : goal.returns-then-goes_before
returns-then-goes_before c t w h first before head adds =
    after_head c.args.self.now.items c.node_at-old.ensures.linked c.args.before c.args.head c.node_at-old.result.now c.node_at-new.result.now c.node_at-old.ensures.node c.node_at-new.ensures.node t w h first before head adds
    (sym c.has_child.ensures ∙ c.if-not-has_child.true) (sym c.goes_before.ensures ∙ c.if-goes_before.true)

pub returns-then-not-has_child-2 : goal.returns-then-not-has_child-2
returns-then-not-has_child-2 c t w h first before head adds =
    after_stays c.args.self.now.items c.node_at-old.ensures.linked c.args.before c.args.head c.node_at-old.result.now c.node_at-new.result.now c.node_at-old.ensures.node c.node_at-new.ensures.node t w h first before head adds
    (sym c.has_child-2.ensures ∙ c.if-not-has_child-2.true)
    (λ leaf. elim c.if-not-has_child.branch [
      | then-not-has_child+else-goes_before v ↦ sym v.goes_before.ensures ∙ v.if-goes_before.false
      | else-not-has_child v ↦ absurd (false≢true (sym leaf ∙ sym c.has_child.ensures ∙ v.if-not-has_child.false))
    ])
