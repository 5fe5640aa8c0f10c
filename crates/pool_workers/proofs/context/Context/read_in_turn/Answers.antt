use Rattle.proof_prelude.proofs.{rules, ◌∙◌}
use Rattle.pool_workers.specs.{seat_of}
use Rattle.pool_workers.proofs.context.Context.read_in_turn.Goals as goal

pub loop-since-preserved : goal.loop-since-preserved
loop-since-preserved g c =
    let k = c.loop-since.invariant.keeps in
    let t = c.take_turn.ensures in
    record {
      seat = search rules;
      read = search rules;
      below = search rules;
      goal = search rules;
      keeps = record { idle = t.idle; fetchers = t.fetchers ∙ k.fetchers; writers = t.writers ∙ k.writers; shows = t.shows (seat_of c.args.worker.now) k.shows };
    }
