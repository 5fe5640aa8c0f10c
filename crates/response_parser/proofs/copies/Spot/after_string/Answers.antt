use Rattle.proof_prelude.proofs.{◌+◌, sym, subst, false, arith}
use Rattle.response_parser.specs.Runs.{Continues}
use Rattle.response_parser.proofs.{continues_end, continues_escape}
use Rattle.response_parser.proofs.copies.Spot.after_string.Goals as goal

pub returns-then-byte-eq34-clause-continues : goal.returns-then-byte-eq34-clause-continues
returns-then-byte-eq34-clause-continues c =
    let s = c.args.self in
    let b = c.args.bytes.now in
    subst (λ q. Continues b s.count q s.nesting (s.count + 1) false s.nesting) (sym c.requires.quoted) (continues_end b s.count s.nesting (omega arith) c.if-byte-eq34.true)

pub returns-then-byte-eq92-clause-continues : goal.returns-then-byte-eq92-clause-continues
returns-then-byte-eq92-clause-continues c =
    let s = c.args.self in
    let b = c.args.bytes.now in
    subst (λ q. Continues b s.count q s.nesting (s.count + 2) q s.nesting) (sym c.requires.quoted) (continues_escape b s.count s.nesting (omega arith) c.requires.within c.if-byte-eq92.true)
