use Rattle.proof_prelude.proofs.{◌-◌, length, refl, sym, ◌∙◌, arith, eqb-true}
use Rattle.json.specs.Run.{is_stop, is_plain}
use Rattle.json_values.proofs.{run_through, end_clear}
use Rattle.json_values.proofs.run.is_plain.Goals as goal

pub loop-i-preserved : goal.loop-i-preserved
loop-i-preserved c =
    let run = run_through is_stop is_plain (λ x. refl) c.args.text.now c.loop-i.i 16 (omega arith) (omega (arith, c.stops_16.ensures)) in
    (omega (arith, run, c.loop-i.invariant.0), omega arith)

pub returns : goal.returns
returns c clear =
    let t = c.args.text.now in
    let none = sym c.stops_16-2.ensures ∙ eqb-true _ _ clear in
    c.loop-i.invariant.0 ∙ end_clear is_stop is_plain (λ x. refl) t (length t - 16) 16 c.loop-i.i (omega arith) (omega arith) (omega arith) none
