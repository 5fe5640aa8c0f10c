use Rattle.proof_prelude.proofs.{subst, IsUtf8}
use Rattle.output_parser.proofs.{front_unique}
use Rattle.output_parser.proofs.rows.name_of.Goals as goal

pub returns-in-Err-clause-none : goal.returns-in-Err-clause-none
returns-in-Err-clause-none c =
    λ name h utf8.
    let same = front_unique c.args.table name c.in_ok-name.name.now c.args.front.now h c.in_ok-name.ensures.some in
    c.in-Err.ensures.cases.0 (subst IsUtf8 same utf8)
