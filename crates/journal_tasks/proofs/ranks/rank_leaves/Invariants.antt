-- The leaves among the revisions so far are ranked.
use Rattle.proof_prelude.proofs.{◌≡◌, filter, map, not, take}
use Rattle.journal_lines.specs.Leafs.{head_view}
use Rattle.journal_tasks.specs.{heads_view, is_ancestor, ranked}
use Rattle.journal_tasks.proofs.ranks.rank_leaves.Given as goal

abbrev pub invariant-loop-leaf : goal.invariant-loop-leaf
invariant-loop-leaf l =
    map (λ leaf. head_view leaf.now) l.ranked.items ≡ ranked (filter (λ head. not (is_ancestor (heads_view l.leaves) head.1.0)) (heads_view (take l.leaf-index l.leaves)))
