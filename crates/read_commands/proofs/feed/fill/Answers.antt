use Rattle.proof_prelude.proofs.{refl, sym, ap, ◌∙◌}
use Rattle.couch_base.specs.{chosen_feed, feed-none}
use Rattle.read_commands.proofs.feed.fill.Goals as goal

pub loop-walk-init : goal.loop-walk-init
loop-walk-init g c = record { text = refl; chosen = refl; counted = λ earlier h. (earlier, h, refl) }

pub loop-walk-preserved : goal.loop-walk-preserved
loop-walk-preserved g c =
    let i = c.loop-walk.invariant in
    let s = c.in_ok-step.ensures in
    record {
      text = s.text ∙ i.text;
      chosen = s.chosen ∙ i.chosen;
      counted = λ earlier h.
          let j = i.counted earlier h in
          let k = s.counted j.0 j.1 in
          (k.0, k.1, k.2 ∙ j.2);
    }

pub returns-clause-end : goal.returns-clause-end
returns-clause-end g c =
    let db = c.args.database.now in
    let walk = c.loop-walk.walk in
    λ e. ap (λ n. chosen_feed walk.chosen db walk.since n) (sym c.update_seq-goal.ensures.seq) ∙ feed-none db walk.since c.update_seq-goal.result walk.chosen c.loop-walk-test.false
