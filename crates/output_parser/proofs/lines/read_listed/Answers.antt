use Rattle.proof_prelude.proofs.{subst, ℕ, List}
use Rattle.rev_core.specs.{RevId}
use Rattle.output_parser.specs.{IsRevs}
use Rattle.output_parser.proofs.{listed_list, none_at}
use Rattle.output_parser.proofs.lines.read_listed.Goals as goal

pub returns-in-None-clause-none : goal.returns-in-None-clause-none
returns-in-None-clause-none c =
    λ id revs p.
    let same = listed_list c.args.word.now c.args.line.now id c.in-Some.id.now p.list c.in-Some.list.now p.parts c.in-Some.ensures.some in
    none_at c.in_ok-revs.field-0 ((revs : List RevId) → IsRevs c.in-Some.list.now revs → ⊥) c.in-None.is c.in_ok-revs.ensures.none
    revs (subst (λ (t : List ℕ). IsRevs t revs) same p.listed)
