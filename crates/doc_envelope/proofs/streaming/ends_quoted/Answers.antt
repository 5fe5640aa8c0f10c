use Rattle.proof_prelude.proofs.{◌≡◌, ◌∙◌, arith, length}
use Rattle.doc_envelope.proofs.Modes.{mode_end, mode_quote}
use Rattle.doc_envelope.proofs.streaming.ends_quoted.Goals as goal

pub loop-at-preserved-then-text-at-eq34 : goal.loop-at-preserved-then-text-at-eq34
loop-at-preserved-then-text-at-eq34 c =
    let l = c.loop-at in
    record {
      same = l.invariant.same ∙ mode_quote c.args.text.now l.at l.quoted c.loop-at-test.true c.if-text-at-eq34.true;
      within = omega (arith, c.loop-at-test.true);
    }

pub returns : goal.returns
returns c = λ quoted.
    let l = c.loop-at in
    let at_end : length c.args.text.now ≡ l.at = omega (arith, c.loop-at-test.false, l.invariant.within) in
    l.invariant.same ∙ mode_end c.args.text.now l.at l.quoted at_end quoted
