use Rattle.proof_prelude.proofs.{◌+◌, sym, subst, ◌∙◌, ne_eqb}
use Rattle.response_parser.specs.Runs.{Continues}
use Rattle.response_parser.proofs.{continues_solid}
use Rattle.response_parser.proofs.copies.Spot.outside.Goals as goal

pub returns-then-is_solid-clause-continues : goal.returns-then-is_solid-clause-continues
returns-then-is_solid-clause-continues c =
    let s = c.args.self in
    let b = c.args.bytes.now in
    subst (λ q. Continues b s.count q s.nesting (s.count + 1) q s.nesting) (sym c.requires.outside) (continues_solid b s.count s.nesting c.requires.within (ne_eqb _ _ c.if-self-eq0.false) (sym c.is_solid.ensures ∙ c.if-is_solid.true))
