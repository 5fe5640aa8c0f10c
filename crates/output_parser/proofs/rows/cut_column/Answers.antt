use Rattle.proof_prelude.proofs.{◌≡◌, ◌++◌, ◌∷◌, ◌∙◌, subst}
use Rattle.output_parser.specs.{IsNumber, column_text}
use Rattle.output_parser.proofs.{named_unique}
use Rattle.output_parser.proofs.rows.cut_column.Goals as goal

pub returns-in-None-clause-none : goal.returns-in-None-clause-none
returns-in-None-clause-none c =
    λ front n e.
    let cut = c.in_ok-front.ensures.some in
    let text = c.args.text.now in
    let form = subst (λ name. text ≡ c.in_ok-front.front.now ++ (name ++ 32 ∷ c.in_ok-front.word.now)) (c.as_bytes.ensures.value ∙ c.text.ensures) cut.0 in
    let u = named_unique text (column_text c.args.column) front e.word c.in_ok-front.front.now c.in_ok-front.word.now e.lacks_blank cut.1 e.form form in
    c.in-None.ensures.none n (subst (λ w. IsNumber w n) u.1 e.number)
