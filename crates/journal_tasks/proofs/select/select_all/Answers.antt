use Rattle.proof_prelude.proofs.{option_map, string_bytes}
use Rattle.journal_tasks.specs.{number_at}
use Rattle.journal_tasks.proofs.{lacks_on, number_on}
use Rattle.journal_tasks.proofs.select.select_all.Goals as goal

pub loop-index-preserved : goal.loop-index-preserved
loop-index-preserved c =
    let f = number_at c.args.numbers.now in
    let several = c.args.filter.now.several in
    let only = option_map string_bytes c.args.filter.now.id in
    let es = c.args.states.now.entries in
    record {
      lacks = lacks_on f several only es c.loop-index.index c.in-Some.id.now c.in-Some.state.now _ _ _ _ _ c.in-Some.ensures.entry c.as_str.ensures.value c.as_slice-revs.ensures.value c.in_ok-lacking.ensures.lacks c.loop-index.invariant.lacks;
      selected = λ n. number_on f several only es c.loop-index.index c.in-Some.id.now c.in-Some.state.now _ _ n _ _ _ c.in-Some.ensures.entry c.as_str.ensures.value c.as_slice-revs.ensures.value (c.in_ok-lacking.ensures.selected n) (c.loop-index.invariant.selected n);
    }
