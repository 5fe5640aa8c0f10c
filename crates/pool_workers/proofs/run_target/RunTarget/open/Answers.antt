use Rattle.proof_prelude.proofs.{subst, sym}
use Rattle.pool_workers.specs.{TargetKeeps}
use Rattle.pool_workers.proofs.{starts}
use Rattle.pool_workers.proofs.run_target.RunTarget.open.Goals as goal

pub invariant_of-result : goal.invariant_of-result
invariant_of-result g c =
    subst (λ m. TargetKeeps g.F.WriteFilter.refuses g.S.SourceBrand.source g.S.SourceBrand.plan g.T.TargetBrand.given c.args.session c.args.ledger.total m c.args.target) (sym c.requires.more)
    (subst (λ n. TargetKeeps g.F.WriteFilter.refuses g.S.SourceBrand.source g.S.SourceBrand.plan g.T.TargetBrand.given c.args.session n g.S.SourceBrand.plan.stop_after c.args.target) (sym c.requires.ledger)
    (subst (λ o. TargetKeeps g.F.WriteFilter.refuses g.S.SourceBrand.source g.S.SourceBrand.plan o c.args.session 0 g.S.SourceBrand.plan.stop_after c.args.target) (sym c.requires.given)
    (starts g.F.WriteFilter.refuses g.S.SourceBrand.source g.S.SourceBrand.plan c.args.target c.args.session c.requires.none c.requires.fresh c.requires.run)))
