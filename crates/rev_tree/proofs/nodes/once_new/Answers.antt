use Rattle.proof_prelude.proofs.{sym, ◌∙◌}
use Rattle.rev_tree.proofs.{known_counts_not, new_counts}
use Rattle.rev_tree.proofs.nodes.once_new.Goals as goal

pub returns-in-Some-clause-new : goal.returns-in-Some-clause-new
returns-in-Some-clause-new c = sym (known_counts_not c.args.nodes.now c.args.rev.now _ (sym c.walked_to.ensures ∙ c.in-Some.is))

pub returns-in-None-clause-new : goal.returns-in-None-clause-new
returns-in-None-clause-new c = sym (new_counts c.args.nodes.now c.args.rev.now (sym c.walked_to.ensures ∙ c.in-None.is))
