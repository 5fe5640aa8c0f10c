use Rattle.proof_prelude.proofs.{◌<◌, ◌≤◌, ◌++◌, length, Ok, refl, ap, ◌∙◌, inl, inr, arith, codes, decimal}
use Rattle.script_engine.specs.{in_full, gave_up}
use Rattle.script_tests.proofs.tests.engine.LengthsServe.serve.Goals as goal

pub returns-then-line-gt40-clause-refused : goal.returns-then-line-gt40-clause-refused
returns-then-line-gt40-clause-refused c =
    let long : 40 < length c.args.line.now = omega arith in
    in_full (inl (long, refl, refl))

pub returns-in-Err-clause-refused : goal.returns-in-Err-clause-refused
returns-in-Err-clause-refused c = gave_up

pub returns-clause-told : goal.returns-clause-told
returns-clause-told c =
    let short : length c.args.line.now ≤ 40 = omega arith in
    in_full (inr (short, ap Ok (c.in-Ok.ensures ∙ ap (λ x. x ++ (decimal c.args.self.now.before ++ codes "\n")) c.requires.empty), refl))
