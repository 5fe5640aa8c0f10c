use Rattle.proof_prelude.proofs.{ℕ, List, sym, subst, ◌∙◌}
use Rattle.rev_core.specs.{RevId}
use Rattle.output_parser.specs.{IsListed}
use Rattle.output_parser.proofs.{none_at}
use Rattle.output_parser.proofs.lines.read_found.Goals as goal

pub returns-in_default-clause-none : goal.returns-in_default-clause-none
returns-in_default-clause-none c =
    λ id revs p.
    none_at c.in_ok-id.field-0 ((id : List ℕ) (revs : List RevId) → IsListed c.as_bytes.result.now c.args.line.now id revs → ⊥) c.in_default.is
    c.in_ok-id.ensures.none id revs
    (subst (λ w. IsListed w c.args.line.now id revs) (sym (c.as_bytes.ensures.value ∙ c.text.ensures)) p)
