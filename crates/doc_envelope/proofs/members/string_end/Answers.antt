use Rattle.proof_prelude.proofs.{◌≡◌, ◌==◌, ◌+◌, ◌≤◌, ◌∙◌, ap, sym, subst, arith, get_or, drop, length}
use Rattle.doc_envelope.specs.{Outside, Quoted, length_in}
use Rattle.doc_envelope.proofs.{other_byte, length_over, quoted_end, quoted_run}
use Rattle.doc_envelope.proofs.members.string_end.Goals as goal

pub loop-at-init : goal.loop-at-init
loop-at-init c =
    let r = c.plain_end-at in
    record {
      same = λ n. quoted_run n c.args.text.now c.args.from r.result r.ensures.value;
      behind = omega (arith, r.ensures.value);
      within = r.ensures.bound;
    }

pub returns-then-text-at-eq34-clause-value : goal.returns-then-text-at-eq34-clause-value
returns-then-text-at-eq34-clause-value c = λ n. c.loop-at.invariant.same n ∙ quoted_end n c.args.text.now c.loop-at.at c.loop-at-test.true (ap (λ z. z == 34) c.if-text-at-eq34.true)

pub loop-at-preserved : goal.loop-at-preserved
loop-at-preserved c =
    let l = c.loop-at in
    let r = c.plain_end-at-in-loop-at in
    let text = c.args.text.now in
    let quote = other_byte (get_or text l.at 0) 34 c.if-text-at-eq34.false in
    record {
      same = λ n. l.invariant.same n ∙ c.past_byte.ensures.value n quote ∙ quoted_run n text c.past_byte.result r.result r.ensures.value;
      behind = omega (arith, l.invariant.behind, c.past_byte.ensures.within.0, r.ensures.value);
      within = r.ensures.bound;
    }

pub returns-clause-value : goal.returns-clause-value
returns-clause-value c = λ n.
    let text = c.args.text.now in
    let at_end : length text ≡ c.loop-at.at = omega (arith, c.loop-at-test.false, c.loop-at.invariant.within) in
    let quoted = subst (λ k. length_in Quoted n (drop k text) ≡ 0) at_end (length_over Quoted n text) in
    let outside = subst (λ k. length_in Outside n (drop k text) ≡ 0) at_end (length_over Outside n text) in
    c.loop-at.invariant.same n ∙ ap (λ k. k + c.loop-at.at) (quoted ∙ sym outside)
