use Rattle.proof_prelude.proofs.{◌+◌, ◌-◌, sym, subst, false}
use Rattle.response_parser.specs.Runs.{Continues}
use Rattle.response_parser.proofs.{continues_close}
use Rattle.response_parser.proofs.copies.Spot.closed.Goals as goal

pub returns-then-self-gt1-clause-continues : goal.returns-then-self-gt1-clause-continues
returns-then-self-gt1-clause-continues c =
    let s = c.args.self in
    let b = c.args.bytes.now in
    subst (λ q. Continues b s.count q s.nesting (s.count + 1) false (s.nesting - 1)) (sym c.requires.outside) (continues_close b s.count s.nesting c.requires.within c.requires.closes c.if-self-gt1.true)
