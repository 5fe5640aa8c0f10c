use Rattle.proof_prelude.proofs.{◌∙◌}
use Rattle.diagrams.proofs.PathLemmas.{cmp_decides, cmp_same}
use Rattle.diagrams.proofs.ancestries.Ancestries.order.Goals as goal

pub returns-then-eq : goal.returns-then-eq
returns-then-eq c = cmp_same c.args.self.now c.args.one c.args.other c.if-eq.ensures

pub returns : goal.returns
returns c =
    c.cmp.ensures ∙ cmp_decides _ _ c.shared-count.result c.rev.result c.rev-2.result c.shared-count.ensures c.rev.ensures c.rev-2.ensures
