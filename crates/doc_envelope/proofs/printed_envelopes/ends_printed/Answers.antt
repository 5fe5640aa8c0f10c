use Rattle.proof_prelude.proofs.{arith, get_or}
use Rattle.doc_envelope.proofs.PrintedEnvelopes.{byte_is, printed_start, printed_step, printed_stop}
use Rattle.doc_envelope.proofs.printed_envelopes.ends_printed.Goals as goal

pub loop-at-init : goal.loop-at-init
loop-at-init c = record {
  ends = printed_start c.args.text.now c.plain_end-at.result c.plain_end-at.ensures.value;
  within = c.plain_end-at.ensures.bound;
}

pub loop-at-smaller : goal.loop-at-smaller
loop-at-smaller c = omega (arith, c.plain_end-at-in-loop-at.ensures.value, c.loop-at-test.ensures.within)

pub loop-at-preserved : goal.loop-at-preserved
loop-at-preserved c =
    let next = c.plain_end-at-in-loop-at in
    let escape = c.is_escape.ensures in
    let test = c.loop-at-test.true in
    record {
      ends = λ h. c.loop-at.invariant.ends
          (printed_step c.args.text.now c.loop-at.at next.result (escape.within test) (escape.first test) (escape.second test) next.ensures.value h);
      within = next.ensures.bound;
    }

pub returns-then-at-text : goal.returns-then-at-text
returns-then-at-text c = λ h. c.loop-at.invariant.ends (printed_stop c.args.text.now c.loop-at.at c.if-at-text.true (byte_is (get_or c.args.text.now c.loop-at.at 0) 34 h))
