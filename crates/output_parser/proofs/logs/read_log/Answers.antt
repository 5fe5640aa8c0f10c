use Rattle.proof_prelude.proofs.{List, subst}
use Rattle.output_parser.specs.{IsHistory, Logged}
use Rattle.output_parser.proofs.{none_at, heads_same}
use Rattle.output_parser.proofs.logs.read_log.Goals as goal

pub returns-in_default-clause-none : goal.returns-in_default-clause-none
returns-in_default-clause-none c = λ id entries p. c.in_default.ensures.none id p.text p.head

pub returns-in_default-2-clause-none : goal.returns-in_default-2-clause-none
returns-in_default-2-clause-none c =
    λ id entries p.
    let text = c.in-Some.text.now in
    let same = heads_same c.args.line.now id c.in-Some.id.now p.text text p.head c.in-Some.ensures.some in
    none_at c.in_ok-entries.field-0 ((entries : List Logged) → IsHistory text entries → ⊥) c.in_default-2.is c.in_ok-entries.ensures.none
    entries (subst (λ t. IsHistory t entries) same p.history)
