use Rattle.proof_prelude.proofs.{Ok, sym, ap, ◌∙◌, cond-true, cond-false, err_from_is_err_and}
use Rattle.rev_tree.proofs.{ok_known}
use Rattle.rev_tree.proofs.tree.Tree.ancestry.Goals as goal

pub returns-then-not-has : goal.returns-then-not-has
returns-then-not-has c = sym (cond-false _ _ _ (sym c.has.ensures.found ∙ c.if-not-has.true))

pub returns-in_err-known_ancestry : goal.returns-in_err-known_ancestry
returns-in_err-known_ancestry c =
    let told = err_from_is_err_and c.from_residual.result c.from_residual.ensures.1 in
    rw (told.1, told.2) (ok_known _ _ _ (sym c.has.ensures.found ∙ c.if-not-has.false))

pub returns : goal.returns
returns c = ap Ok c.in_ok-known_ancestry.ensures ∙ sym (cond-true _ _ _ (sym c.has.ensures.found ∙ c.if-not-has.false))
