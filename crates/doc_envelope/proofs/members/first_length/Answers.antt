use Rattle.proof_prelude.proofs.{◌≡◌, ◌==◌, ◌&&◌, ◌+◌, ◌∙◌, cond, false, refl, ap, sym, subst, arith, get_or, drop, length, and_right}
use Rattle.doc_envelope.specs.{Outside, Quoted, ends_member, length_in, mode_behind, nesting_behind}
use Rattle.doc_envelope.proofs.{other_byte, length_step, length_stop, length_over}
use Rattle.doc_envelope.proofs.members.first_length.Goals as goal

pub loop-at-preserved-then-byte-eq34 : goal.loop-at-preserved-then-byte-eq34
loop-at-preserved-then-byte-eq34 c =
    let l = c.loop-at in
    let r = c.string_end-at in
    let text = c.args.text.now in
    let rest = drop (l.at + 1) text in
    let none = ap (ends_member Outside l.nesting) c.if-byte-eq34.true ∙ and_right (l.nesting == 0) false refl in
    let one = length_step Outside l.nesting text l.at c.loop-at-test.true none in
    let mode = ap (λ b. length_in (mode_behind Outside b) (nesting_behind Outside l.nesting b) rest) c.if-byte-eq34.true in
    let string = r.ensures.value l.nesting in
    record {
      same = omega (arith, l.invariant.same, one, mode, string);
      few = omega (arith, l.invariant.few, r.ensures.within.0);
      within = r.ensures.within.1;
    }

pub loop-at-preserved : goal.loop-at-preserved
loop-at-preserved c =
    let l = c.loop-at in
    let text = c.args.text.now in
    let b = get_or text l.at 0 in
    let rest = drop (l.at + 1) text in
    let one = length_step Outside l.nesting text l.at c.loop-at-test.true (sym c.ends.ensures ∙ c.if-ends.false) in
    let mode = ap (λ t. length_in (cond t Quoted Outside) (nesting_behind Outside l.nesting b) rest) (other_byte b 34 c.if-byte-eq34.false) in
    let nested = ap (λ n. length_in Outside n rest) c.nesting_behind-nesting.ensures.value in
    record {
      same = omega (arith, l.invariant.same, one, mode, nested);
      few = omega (arith, l.invariant.few, c.nesting_behind-nesting.ensures.within);
      within = omega (arith, c.loop-at-test.true);
    }

pub returns-then-ends-clause-value : goal.returns-then-ends-clause-value
returns-then-ends-clause-value c =
    let l = c.loop-at in
    let stop = length_stop Outside l.nesting c.args.text.now l.at c.loop-at-test.true (sym c.ends.ensures ∙ c.if-ends.true) in
    omega (arith, l.invariant.same, stop)

pub returns-clause-value : goal.returns-clause-value
returns-clause-value c =
    let l = c.loop-at in
    let text = c.args.text.now in
    let at_end : length text ≡ l.at = omega (arith, c.loop-at-test.false, l.invariant.within) in
    let none = subst (λ k. length_in Outside l.nesting (drop k text) ≡ 0) at_end (length_over Outside l.nesting text) in
    omega (arith, l.invariant.same, none)
