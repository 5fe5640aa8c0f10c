use Rattle.proof_prelude.proofs.{◌++◌, ◌∷◌, sym, ap, subst, ◌∙◌, IsUtf8}
use Rattle.output_parser.proofs.{after, if_none, listed_unique, lacks_not}
use Rattle.output_parser.specs.{lacks}
use Rattle.output_parser.proofs.lines.listed_parts.Goals as goal

pub returns-in-Err-clause-none : goal.returns-in-Err-clause-none
returns-in-Err-clause-none c =
    λ id list p.
    let u = listed_unique c.args.word.now c.args.line.now c.in_ok-rest.rest.now c.in_ok-id.id.now c.in_ok-id.list.now c.in_ok-rest.ensures.some
    c.in_ok-id.ensures.some.0 c.in_ok-id.ensures.some.1 id list p in
    c.in-Err.ensures.cases.0 (subst IsUtf8 (sym u.0) p.utf8)

pub returns-in_err-id-clause-none : goal.returns-in_err-id-clause-none
returns-in_err-id-clause-none c =
    if_none c.from_residual-in_err-id.result _
    (λ id list p.
    let rest = after c.args.word.now c.args.line.now c.in_ok-rest.rest.now (id ++ 32 ∷ list) c.in_ok-rest.ensures.some p.form in
    lacks_not 32 id list (ap (lacks 32) (sym rest) ∙ c.in_err-id.ensures.none))
