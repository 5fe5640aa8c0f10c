use Rattle.proof_prelude.proofs.{◌≡◌, ◌<◌, ◌++◌, length, sym, ap, ◌∙◌, subst, arith, rules, drop_all, append-nil}
use Rattle.rev_core.specs.{numbered, FallsByOne, falls_numbered, length-numbered}
use Rattle.rev_core.proofs.ancestry.Ancestry.from_parts.Goals as goal

all : (c : goal.After-loop-id) → c.loop-id.revs.items ≡ numbered c.args.start c.args.ids.now
all c = sym (append-nil _) ∙ ap (λ t. c.loop-id.revs.items ++ numbered c.loop-id.generation t) (sym (drop_all c.loop-id.id-index c.args.ids.now (omega arith))) ∙ c.loop-id.invariant.items

pub invariant_of-result : goal.invariant_of-result
invariant_of-result c = record {
  nonempty = subst (λ t. 0 < length t) (sym (all c)) (rw length-numbered (search rules));
  each = c.loop-id.invariant.each;
  falls = subst FallsByOne (sym (all c)) (falls_numbered c.args.start c.args.ids.now (omega arith));
}
