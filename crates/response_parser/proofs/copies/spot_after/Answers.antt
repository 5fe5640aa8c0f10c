use Rattle.response_parser.proofs.{continues_then}
use Rattle.response_parser.proofs.copies.spot_after.Goals as goal

pub returns-then-next-spot-clause-continues : goal.returns-then-next-spot-clause-continues
returns-then-next-spot-clause-continues c =
    let s = c.loop-spot.spot in
    let n = c.next-next.result in
    continues_then c.args.bytes.now 0 s.count n.count c.args.quoted s.quoted n.quoted c.args.nesting s.nesting n.nesting c.loop-spot.invariant.continues c.next-next.ensures.continues

pub loop-spot-preserved : goal.loop-spot-preserved
loop-spot-preserved c =
    let s = c.loop-spot.spot in
    let n = c.next-next.result in
    record {
      within = c.next-next.ensures.within.1;
      continues = continues_then c.args.bytes.now 0 s.count n.count c.args.quoted s.quoted n.quoted c.args.nesting s.nesting n.nesting c.loop-spot.invariant.continues c.next-next.ensures.continues;
    }
