use Rattle.proof_prelude.proofs.{◌<◌, ◌^◌, length, sym, ap, ◌∙◌, subst}
use Rattle.rev_tree.specs.{index_for, IsLinked, revs_in}
use Rattle.rev_tree.proofs.{empty_played}
use Rattle.rev_tree.proofs.nodes.Nodes.copy.Goals as goal

pub invariant_of-result : goal.invariant_of-result
invariant_of-result c =
    record {
      few = subst (λ l. length l < 2 ^ 32) (sym (c.in_ok-list.ensures ∙ c.deref.ensures.value)) c.self.invariant.few;
      index = c.in_ok-places.ensures.entries ∙ ap (λ l. index_for (revs_in l)) c.deref-2.ensures.value;
      linked = subst IsLinked (sym (c.in_ok-list.ensures ∙ c.deref.ensures.value)) c.self.invariant.linked;
      played = empty_played c.in_ok-list.list.items c.in_ok-places.places.winners c.in_ok-places.places.entered c.in_ok-places.ensures.winners c.in_ok-places.ensures.entered;
    }
