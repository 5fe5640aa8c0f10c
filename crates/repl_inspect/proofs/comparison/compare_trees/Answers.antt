use Rattle.proof_prelude.proofs.{ap, ◌∙◌, list_all}
use Rattle.rev_tree.specs.{has, missing}
use Rattle.repl_inspect.proofs.{missing_known}
use Rattle.repl_inspect.proofs.comparison.compare_trees.Goals as goal

pub first_under-requires : goal.first_under-requires
first_under-requires c =
    ap (list_all (has c.args.source.now)) (c.as_slice-2.ensures ∙ c.in_ok-missing.ensures ∙ ap (missing c.args.target.now) (c.as_slice.ensures ∙ c.in_ok-leaves.ensures))
    ∙ missing_known c.args.source.now c.args.target.now
