use Rattle.proof_prelude.proofs.{◌≡◌, ◌+◌, [], length}
use Rattle.std.specs.Vec.Iter.{into_iter_items}
use Rattle.crossbeam_channel.specs.Claims.{view, IsSeatAt}
use Rattle.crossbeam_channel.specs.Ends.{sends_on}
use Rattle.pool_workers.specs.{window_view}
use Rattle.pool_workers.proofs.reader.send_all.Given as goal

-- the pages before this one are sent
abbrev pub invariant-loop-page : goal.invariant-loop-page
invariant-loop-page g l =
    (goal.iterator-loop-page g).can_next l.page-iterator × (goal.iterator-loop-page g).is_finite l.page-iterator
    × (l.next + length (into_iter_items l.page-iterator) ≡ l.number + length l.fn.pages.items)
    × IsSeatAt (sends_on l.channels.to_fetchers) l.windows
    × (view l.windows ≡ window_view (view l.initial.windows).parts 1 l.next [])
