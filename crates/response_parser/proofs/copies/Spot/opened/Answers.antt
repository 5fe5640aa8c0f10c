use Rattle.proof_prelude.proofs.{◌+◌, sym, subst, false}
use Rattle.response_parser.specs.Runs.{Continues}
use Rattle.response_parser.proofs.{continues_open}
use Rattle.response_parser.proofs.copies.Spot.opened.Goals as goal

pub returns-then-self-lt-MAX_NESTING-clause-continues : goal.returns-then-self-lt-MAX_NESTING-clause-continues
returns-then-self-lt-MAX_NESTING-clause-continues c =
    let s = c.args.self in
    let b = c.args.bytes.now in
    subst (λ q. Continues b s.count q s.nesting (s.count + 1) false (s.nesting + 1)) (sym c.requires.outside) (continues_open b s.count s.nesting c.requires.within c.requires.opens c.if-self-lt-MAX_NESTING.true)
