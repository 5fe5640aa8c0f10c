use Rattle.proof_prelude.proofs.{◌≡◌, slice_get, sym, ap, ◌∙◌, subst}
use Rattle.rev_tree.specs.{SharedValue, best_in, first_of, items_in, leaves, many, revs_in, tree_of}
use Rattle.rev_tree.proofs.{IsLed-none}
use Rattle.rev_tree.proofs.stored.Stored.insert_first.Goals as goal

pub insert-requires-clause-led : goal.insert-requires-clause-led
insert-requires-clause-led c = rw (c.new-block.ensures.items, c.new-block.ensures.best) IsLed-none

pub returns-clause-best : goal.returns-clause-best
returns-clause-best c =
    subst (λ (s : SharedValue). slice_get (revs_in (items_in s)) (best_in s) ≡ first_of (leaves (tree_of (items_in s))))
    (sym (c.many.ensures.shared ∙ ap many c.in_ok-new.ensures.ok)) c.in_ok-insert.ensures.best
