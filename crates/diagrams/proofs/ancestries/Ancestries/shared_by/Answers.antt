use Rattle.proof_prelude.proofs.{◌≡◌, ◌<◌, ◌≤◌, ◌∙◌, Some, length, min, sym, arith}
use Rattle.diagrams.specs.Ancestries.{ancestry_of}
use Rattle.diagrams.proofs.PathLemmas.{nothing, shared_after, shared_all, shared_ends, shared_more}
use Rattle.diagrams.proofs.ancestries.Ancestries.shared_by.Goals as goal

pub loop-index-init : goal.loop-index-init
loop-index-init c =
    shared_after c.joined-index.result _ _ c.joined-index.ensures.same c.joined-index.ensures.one c.joined-index.ensures.other

pub returns-then-not-is_shared : goal.returns-then-not-is_shared
returns-then-not-is_shared c =
    let one = ancestry_of c.args.self.now (Some c.args.one) in
    let other = ancestry_of c.args.self.now (Some c.args.other) in
    let low : c.loop-index.index < length one = omega arith in
    let high : c.loop-index.index < length other = omega arith in
    shared_ends one other c.loop-index.index c.loop-index.invariant low high c.is_shared.result (c.is_shared.ensures nothing) c.if-not-is_shared.true

pub loop-index-preserved : goal.loop-index-preserved
loop-index-preserved c =
    let one = ancestry_of c.args.self.now (Some c.args.one) in
    let other = ancestry_of c.args.self.now (Some c.args.other) in
    let low : c.loop-index.index < length one = omega arith in
    let high : c.loop-index.index < length other = omega arith in
    shared_more one other c.loop-index.index c.loop-index.invariant low high c.is_shared.result (c.is_shared.ensures nothing) c.if-not-is_shared.false

pub returns : goal.returns
returns c =
    let one = ancestry_of c.args.self.now (Some c.args.one) in
    let other = ancestry_of c.args.self.now (Some c.args.other) in
    let first = c.joined-index.ensures.one in
    let second = c.joined-index.ensures.other in
    let within : c.joined-index.result ≤ c.min-end.result = omega (arith, first, second) in
    let most = c.loop-index.auto.index-end within in
    let last : c.loop-index.index ≡ c.min-end.result = omega (arith, most) in
    let end : c.loop-index.index ≡ min (length one) (length other) = omega (arith, last) in
    sym last ∙ shared_all one other c.loop-index.index c.loop-index.invariant end
