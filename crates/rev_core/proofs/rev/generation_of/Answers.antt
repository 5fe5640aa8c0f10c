use Rattle.proof_prelude.proofs.{◌≡◌, ◌+◌, drop, get_or, fold, sym, ◌∙◌, arith, at_drop_more}
use Rattle.rev_core.specs.{with_digit, value_of}
use Rattle.rev_core.proofs.{value_grows, too_large}
use Rattle.rev_core.proofs.rev.generation_of.Goals as goal

pub returns-then-value-ge4294967296-clause-value : goal.returns-then-value-ge4294967296-clause-value
returns-then-value-ge4294967296-clause-value c =
    let text = c.args.text.now in
    let i = c.loop-b.b-index in
    let b = get_or text i 0 in
    let here : fold with_digit (with_digit c.loop-b.value b) (drop (i + 1) text) ≡ value_of text = sym (at_drop_more (fold with_digit c.loop-b.value) text i 0 c.loop-b-test.true) ∙ c.loop-b.invariant.value in
    let grown = value_grows (with_digit c.loop-b.value b) (drop (i + 1) text) in
    too_large text (omega arith)
