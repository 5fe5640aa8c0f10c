use Rattle.proof_prelude.proofs.{subst, reverse}
use Rattle.output_parser.specs.{Ends, EndsIn, IsFront, columns_of}
use Rattle.output_parser.proofs.{some_at, column_unique, turns_unique}
use Rattle.output_parser.proofs.rows.read_row.Goals as goal

pub returns-in_default-name_of-clause-none : goal.returns-in_default-name_of-clause-none
returns-in_default-name_of-clause-none c =
    λ name numbers r.
    let line = c.args.line.now in
    let read = some_at c.in_ok-front.field-0 (λ x. Ends c.columns_back.result.now x.1.items x.0.now line) (c.in-Some.front, c.in-Some.numbers) c.in-Some.is c.in_ok-front.ensures.some in
    let same = (turns_unique EndsIn column_unique (reverse (columns_of c.args.table)) (reverse numbers) c.in-Some.numbers.items r.front c.in-Some.front.now line r.ends
    (subst (λ cs. Ends cs c.in-Some.numbers.items c.in-Some.front.now line) c.columns_back.ensures read)).0 in
    c.in_default-name_of.ensures.none name (subst (IsFront c.args.table name) same r.is_front) r.utf8
