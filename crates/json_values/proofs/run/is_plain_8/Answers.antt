use Rattle.proof_prelude.proofs.{refl, sym, ◌∙◌, arith, and_parts, eqb-true}
use Rattle.json.specs.Run.{is_stop, is_plain}
use Rattle.json_values.proofs.{both_clear}
use Rattle.json_values.proofs.run.is_plain_8.Goals as goal

pub returns : goal.returns
returns c clear =
    let t = c.args.text.now in
    let both = and_parts _ _ clear in
    both_clear is_stop is_plain (λ x. refl) t 8 (omega arith) (omega arith) (sym c.stops_8-first.ensures ∙ eqb-true _ _ both.0) (sym c.stops_8-last.ensures ∙ eqb-true _ _ both.1)
