use Rattle.proof_prelude.proofs.{sym, subst}
use Rattle.rev_tree.specs.{IsTold}
use Rattle.rev_tree.proofs.nodes.Nodes.is_above.Goals as goal

pub returns-clause-told : goal.returns-clause-told
returns-clause-told c revs h = c.tell.ensures.told revs h (c.first_told-answer.ensures revs (subst (IsTold c.args.self.now.items revs) (sym c.deref.ensures.value) h))
