use Rattle.proof_prelude.proofs.{Ok, sym, ap, ◌∙◌, false≢true}
use Rattle.rev_tree.specs.{merged-same}
use Rattle.rev_tree.proofs.{is_told_same, same_from_answer, changed_from_answer}
use Rattle.rev_tree.proofs.tree.Tree.merge.Goals as goal

pub returns-in-Ok-Same-clause-ok : goal.returns-in-Ok-Same-clause-ok
returns-in-Ok-Same-clause-ok c =
    let t = c.args.self.now in
    let revs = c.args.ancestry.now in
    sym (merged-same t revs c.args.content c.args.origin (same_from_answer t revs (sym c.merge_answer.ensures.answer ∙ c.in-Ok-Same.is ∙ ap Ok c.in-Ok-Same.field-0-is)))

pub returns-clause-same : goal.returns-clause-same
returns-clause-same c =
    let t = c.args.self.now in
    let revs = c.args.ancestry.now in
    let changes = sym c.merge_answer.ensures.answer ∙ c.in-Ok-Changed.is ∙ ap Ok c.in-Ok-Changed.field-0-is in
    let apart = changed_from_answer t revs c.args.content c.args.origin changes in
    let is = sym c.in_ok-merge_change.ensures.ok in
    (λ told. absurd (false≢true (ap is_told_same (ap Ok told))), λ stays. absurd (apart (is ∙ stays)))
