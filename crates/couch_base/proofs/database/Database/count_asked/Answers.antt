use Rattle.proof_prelude.proofs.{◌+◌, drop, length, ap, ◌∙◌, arith}
use Rattle.couch_base.specs.{fetched}
use Rattle.couch_base.proofs.{counted_next, counted_end}
use Rattle.couch_base.proofs.database.Database.count_asked.Goals as goal

pub loop-wanted-preserved : goal.loop-wanted-preserved
loop-wanted-preserved c =
    let ds = c.args.self.now.docs in
    let ws = c.docs-wanted-items.result.now in
    let i = c.loop-wanted.wanted-index in
    record {
      all =
          ap (λ n. (c.loop-wanted.count + n) + length (fetched ds (drop (i + 1) ws))) c.in_ok-more.ensures.count
          ∙ counted_next ds c.loop-wanted.count (length (fetched ds ws)) ws i c.wanted-item.result c.loop-wanted-test.true c.wanted-item.is c.loop-wanted.invariant.all;
      fits = omega (arith, c.loop-wanted.invariant.fits);
    }

pub returns : goal.returns
returns c =
    let ds = c.args.self.now.docs in
    let ws = c.docs-wanted-items in
    record {
      count =
          counted_end ds c.loop-wanted.count (length (fetched ds ws.result.now)) ws.result.now c.loop-wanted.wanted-index c.loop-wanted-test.false c.loop-wanted.invariant.all
          ∙ ap (λ l. length (fetched ds l)) ws.ensures.value;
    }
