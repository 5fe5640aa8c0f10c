use Rattle.proof_prelude.proofs.{length, sym, ap, ◌∙◌, arith, length-take, take}
use Rattle.diagrams.specs.Branches.{end_at}
use Rattle.diagrams.proofs.BranchLemmas.{end_none, length-end, length-taken}
use Rattle.diagrams.proofs.ancestries.Ancestries.count.Goals as goal

pub returns-in-Some : goal.returns-in-Some
returns-in-Some c =
    let e = length-end c.args.self.now.branches.entries c.args.self.now.linked c.args.last.branch (c.in-Some.start.now, c.in-Some.rest.now) c.in-Some.ensures.entry in
    let t = length-take c.args.last.count (end_at c.args.self.now.branches.entries c.args.last.branch) in
    omega (arith, e, t)

pub returns-in-None : goal.returns-in-None
returns-in-None c =
    sym (length-taken c.args.last.count) ∙ ap (λ l. length (take c.args.last.count l)) (sym (end_none c.args.self.now.branches.entries c.args.self.now.linked c.args.last.branch c.in-None.ensures.entry))
