use Rattle.proof_prelude.proofs.{◌∙◌, sym}
use Rattle.response_output.specs.Runs.{in_part}
use Rattle.response_output.proofs.run.write_text.Goals as goal

pub returns-in-Err-clause-err : goal.returns-in-Err-clause-err
returns-in-Err-clause-err g c =
    let part = c.in-Err.ensures.err in
    in_part part.0 part.1 (sym c.text.ensures ∙ part.2) part.3 c.in-Err.ensures.fault
