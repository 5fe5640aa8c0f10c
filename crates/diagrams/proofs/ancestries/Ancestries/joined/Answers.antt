use Rattle.proof_prelude.proofs.{◌≡◌, ◌∙◌, sym, ap, arith}
use Rattle.diagrams.specs.Branches.{from_of}
use Rattle.diagrams.proofs.BranchLemmas.{joined_first, joined_second}
use Rattle.diagrams.proofs.ancestries.Ancestries.joined.Goals as goal

pub loop-one-smaller-then-one-other : goal.loop-one-smaller-then-one-other
loop-one-smaller-then-one-other c =
    let e = (c.args.self.now.linked c.max.result c.in-Some.parent (sym c.in-Some.ensures)).earlier in omega (arith, e)

pub loop-one-preserved-then-one-other : goal.loop-one-preserved-then-one-other
loop-one-preserved-then-one-other c =
    let e : c.max.result ≡ c.loop-one.one = omega arith in
    joined_first c.args.self.now.branches.entries c.args.self.now.linked c.args.one c.args.other c.loop-one.one c.loop-one.other c.loop-one.count c.loop-one.invariant
    c.in-Some.parent c.min-count-in-loop-one.result (ap (from_of c.args.self.now.branches.entries) (sym e) ∙ sym c.in-Some.ensures) c.min-count-in-loop-one.ensures

pub loop-one-smaller : goal.loop-one-smaller
loop-one-smaller c =
    let e = (c.args.self.now.linked c.max.result c.in-Some.parent (sym c.in-Some.ensures)).earlier in omega (arith, e)

pub loop-one-preserved : goal.loop-one-preserved
loop-one-preserved c =
    let e : c.max.result ≡ c.loop-one.other = omega arith in
    joined_second c.args.self.now.branches.entries c.args.self.now.linked c.args.one c.args.other c.loop-one.one c.loop-one.other c.loop-one.count c.loop-one.invariant
    c.in-Some.parent c.min-count-in-loop-one.result (ap (from_of c.args.self.now.branches.entries) (sym e) ∙ sym c.in-Some.ensures) c.min-count-in-loop-one.ensures
