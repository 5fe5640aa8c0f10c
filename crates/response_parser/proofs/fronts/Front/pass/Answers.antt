use Rattle.proof_prelude.proofs.{◌≡◌, ◌+◌, ◌≤◌, min, take, length, sym, ap, ◌∙◌, length-take-le, arith}
use Rattle.response_parser.specs.{state_of}
use Rattle.response_parser.specs.State.{State}
use Rattle.response_parser.specs.Runs.{more_by}
use Rattle.response_parser.proofs.{more_by-min}
use Rattle.response_parser.proofs.fronts.Front.pass.Goals as goal

pub returns-clause-passes : goal.returns-clause-passes
returns-clause-passes c = λ some.
    let t = state_of c.may_pass.new.reading in
    let r = c.run_length-count in
    let xs = take r.result c.args.bytes.now in
    let same = c.in_ok-may_pass.ensures.same in
    let small : t.taken ≤ 18446744073709551615 = omega arith in
    let count : length xs ≡ r.result = length-take-le r.result c.args.bytes.now r.ensures.within in
    let taken = c.saturating_add-reading.ensures ∙ ap (λ z. min (t.taken + z) 18446744073709551615) (sym count) ∙ sym (more_by-min t.taken xs small) in
    record {
      name = c.in-Quoted.name;
      place = c.in-Quoted.is;
      long_is = c.is_long.ensures c.if-not-is_long.false;
      run = r.ensures.run;
      state = (λ i. record t { taken = taken i }) ∙ ap (λ (z : State). record z { taken = more_by z.taken xs }) same;
      follows = c.in_ok-may_pass.ensures.follows c.if-not-branch.false;
    }
