use Rattle.proof_prelude.proofs.{◌≡◌, List, [], None, drop, sym, ap, ◌∙◌, arith, drop_all}
use Rattle.repl_log.specs.{EntryValue, value_of, common, recorded_of, common-at, common-behind, common-IsCommon, common-none}
use Rattle.repl_log.proofs.checkpoint.common.Goals as goal

pub returns-in-Some-recorded_of-clause-value : goal.returns-in-Some-recorded_of-clause-value
returns-in-Some-recorded_of-clause-value c =
    let here = common-at c.args.source.now c.args.target.now c.loop-i.i c.in-Some-recorded_of.recorded (value_of c.in-Some.entry) c.loop-i.invariant (sym c.in-Some.ensures) (sym c.in-Some-recorded_of.ensures) in
    cc

pub returns-in-Some-recorded_of-clause-shared : goal.returns-in-Some-recorded_of-clause-shared
returns-in-Some-recorded_of-clause-shared c =
    let here = common-at c.args.source.now c.args.target.now c.loop-i.i c.in-Some-recorded_of.recorded (value_of c.in-Some.entry) c.loop-i.invariant (sym c.in-Some.ensures) (sym c.in-Some-recorded_of.ensures) in
    common-IsCommon _ _ _ cc

pub loop-i-preserved : goal.loop-i-preserved
loop-i-preserved c =
    let source = c.args.source.now in
    let target = c.args.target.now in
    let i = c.loop-i.i in
    let x = value_of c.in-Some.entry in
    let none : recorded_of source x.session ≡ None = sym c.recorded_of.ensures ∙ c.in_default-recorded_of.is in
    common-behind source target i x c.loop-i.invariant (sym c.in-Some.ensures) none

pub returns-clause-unshared : goal.returns-clause-unshared
returns-clause-unshared c =
    let target = c.args.target.now in
    let all : drop c.loop-i.i target ≡ [] = drop_all c.loop-i.i target (omega (arith, c.len-i-end.ensures.len)) in
    common-none c.args.source.now target (c.loop-i.invariant ∙ ap (λ (rest : List EntryValue). common c.args.source.now rest) all)
