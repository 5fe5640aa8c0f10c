use Rattle.proof_prelude.proofs.{◌≡◌, ◌-◌, suc, take, sym, ap, ◌∙◌, arith}
use Rattle.rev_tree.specs.{falls, revs_in}
use Rattle.rev_tree.proofs.{all_behind, falls_split, length-revs_in}
use Rattle.rev_tree.proofs.nodes.all_fall.Goals as goal

pub returns-then-known-le-MOST_WALKED : goal.returns-then-known-le-MOST_WALKED
returns-then-known-le-MOST_WALKED c = c.falls_from.ensures ∙ ap falls (all_behind (revs_in c.args.nodes.now))

pub returns-else-known-le-MOST_WALKED : goal.returns-else-known-le-MOST_WALKED
returns-else-known-le-MOST_WALKED c =
    let revs = revs_in c.args.nodes.now in
    let k : c.args.known ≡ suc (c.args.known - 1) = omega arith in
    c.falls_from-else-known-le-MOST_WALKED.ensures
    ∙ sym (falls_split (c.args.known - 1) revs (omega (arith, length-revs_in c.args.nodes.now, c.requires.known)) (ap (λ n. falls (take n revs)) (sym k) ∙ c.requires.fall (omega arith)))
