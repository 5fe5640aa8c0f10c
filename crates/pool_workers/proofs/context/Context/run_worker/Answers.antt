use Rattle.proof_prelude.proofs.{◌∙◌}
use Rattle.pool_workers.specs.{seat_of}
use Rattle.pool_workers.proofs.context.Context.run_worker.Goals as goal

pub loop-preserved : goal.loop-preserved
loop-preserved g c =
    let k = c.loop.invariant in
    let t = c.take_turn.ensures in
    record { idle = t.idle; fetchers = t.fetchers ∙ k.fetchers; writers = t.writers ∙ k.writers; shows = t.shows (seat_of c.args.worker) k.shows }

pub returns-then-not-take_turn : goal.returns-then-not-take_turn
returns-then-not-take_turn g c =
    let k = c.loop.invariant in
    let t = c.take_turn.ensures in
    record { idle = t.idle; fetchers = t.fetchers ∙ k.fetchers; writers = t.writers ∙ k.writers; shows = t.shows (seat_of c.args.worker) k.shows }
