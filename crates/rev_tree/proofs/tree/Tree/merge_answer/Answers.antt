use Rattle.proof_prelude.proofs.{is_some, sym, ap, ◌∙◌, list_all}
use Rattle.rev_core.specs.{edges_of}
use Rattle.rev_tree.specs.{has_edge, first_contradiction, is_same, answer_of}
use Rattle.rev_tree.proofs.{answer_known, answer_missed, is_some-copied, stored_tree}
use Rattle.rev_tree.proofs.tree.Tree.merge_answer.Goals as goal
use Rattle.rev_tree.proofs.tree.Tree.merge_answer.Goals.{else-all-via-then-all+else-is_some, else-all-via-else-all}

pub returns-then-is_some-clause-answer : goal.returns-then-is_some-clause-answer
returns-then-is_some-clause-answer c =
    let t = c.args.self.now in
    let none = (λ i. first_contradiction (sym c.self.view_is i).parents (edges_of (sym c.revs.ensures.all i))) ∙ c.in-Ok.ensures.none in
    let all = (λ i. list_all (has_edge (sym c.self.view_is i)) (edges_of (sym c.revs.ensures.all i))) ∙ sym c.in-Ok.ensures.edges ∙ c.if-all.true in
    sym (answer_known t (stored_tree c.self.inside.stored.items c.self.inside.stored.origins c.self.inside.stored.best c.args.self.now c.self.invariant c.self.view_is) c.args.ancestry.now c.head.result _ c.head.ensures none all
    (ap is_some (sym c.content.ensures) ∙ sym (is_some-copied c.content.result) ∙ sym c.is_some.ensures ∙ c.if-is_some.true))

pub returns-else-all-clause-answer : goal.returns-else-all-clause-answer
returns-else-all-clause-answer c =
    let t = c.args.self.now in
    let none = (λ i. first_contradiction (sym c.self.view_is i).parents (edges_of (sym c.revs.ensures.all i))) ∙ c.in-Ok.ensures.none in
    let all = (λ i. list_all (has_edge (sym c.self.view_is i)) (edges_of (sym c.revs.ensures.all i))) ∙ sym c.in-Ok.ensures.edges in
    elim c.else-all.branch [
      | else-all-via-then-all+else-is_some w ↦
          sym (answer_known t (stored_tree c.self.inside.stored.items c.self.inside.stored.origins c.self.inside.stored.best c.args.self.now c.self.invariant c.self.view_is) c.args.ancestry.now w.head.result _ w.head.ensures none (all ∙ w.if-all.true)
          (ap is_some (sym w.content.ensures) ∙ sym (is_some-copied w.content.result) ∙ sym w.is_some.ensures ∙ w.if-is_some.false))
      | else-all-via-else-all w ↦ sym (answer_missed t c.args.ancestry.now none (all ∙ w.if-all.false))
    ]

pub returns-in-Err-clause-answer : goal.returns-in-Err-clause-answer
returns-in-Err-clause-answer c =
    let t = c.args.self.now in
    let told = (λ i. first_contradiction (sym c.self.view_is i).parents (edges_of (sym c.revs.ensures.all i))) ∙ c.in-Err.ensures.contradiction in
    sym (ap (λ o. answer_of o (is_same t c.args.ancestry.now)) told)

pub returns-then-is_some-clause-tree : goal.returns-then-is_some-clause-tree
returns-then-is_some-clause-tree c = stored_tree c.self.inside.stored.items c.self.inside.stored.origins c.self.inside.stored.best c.args.self.now c.self.invariant c.self.view_is

pub returns-else-all-clause-tree : goal.returns-else-all-clause-tree
returns-else-all-clause-tree c = stored_tree c.self.inside.stored.items c.self.inside.stored.origins c.self.inside.stored.best c.args.self.now c.self.invariant c.self.view_is

pub returns-in-Err-clause-tree : goal.returns-in-Err-clause-tree
returns-in-Err-clause-tree c = stored_tree c.self.inside.stored.items c.self.inside.stored.origins c.self.inside.stored.best c.args.self.now c.self.invariant c.self.view_is
