use Rattle.proof_prelude.proofs.{◌≡◌, ◌≤◌, ◌<◌, ◌++◌, [], ℕ, List, length, length-append, Ok, ap, refl, arith, ◌∙◌, codes}
use Rattle.script_engine.specs.{in_full, gave_up}
use Rattle.script_tests.proofs.tests.pieces.EchoServe.serve.Goals as goal

pub returns-in-Ok-clause-told : goal.returns-in-Ok-clause-told
returns-in-Ok-clause-told c =
    in_full (ap (λ x. Ok (x ++ codes "\n")) (c.in-Ok.ensures ∙ ap (λ x. x ++ (codes ">" ++ c.args.line.now)) c.requires.empty))

marked : (text old line : List ℕ) → text ≡ old ++ (codes ">" ++ line) → 1 ≤ length text
marked text old line e = omega (arith, ap length e, length-append old (codes ">" ++ line))

pub returns-in-Ok-clause-split : goal.returns-in-Ok-clause-split
returns-in-Ok-clause-split c = (refl, marked c.push_marked.new.answer.items c.args.answer.now.items c.args.line.now c.in-Ok.ensures, omega arith)

pub returns-in-Err-clause-refused : goal.returns-in-Err-clause-refused
returns-in-Err-clause-refused c = gave_up
