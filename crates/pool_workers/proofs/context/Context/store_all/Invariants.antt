use Rattle.proof_prelude.proofs.{◌≡◌, ◌+◌, length}
use Rattle.std.specs.Vec.Iter.{into_iter_items}
use Rattle.pool_workers.proofs.context.Context.store_all.Given as goal

-- the pages before this one are stored
abbrev pub invariant-loop-page : goal.invariant-loop-page
invariant-loop-page g l =
    (goal.iterator-loop-page g).can_next l.page-iterator × (goal.iterator-loop-page g).is_finite l.page-iterator
    × (l.stored + length (into_iter_items l.page-iterator) ≡ length l.fn.pages.items)
