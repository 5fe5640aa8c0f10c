use Rattle.proof_prelude.proofs.{subst, sym}
use Rattle.pool_workers.specs.{TargetKeeps}
use Rattle.pool_workers.proofs.run_target.RunTarget.close.Goals as goal

pub returns : goal.returns
returns g c = (
  c.self.inside.session,
  c.self.inside.more,
  subst (λ n. TargetKeeps g.F.WriteFilter.refuses g.S.SourceBrand.source g.S.SourceBrand.plan g.T.TargetBrand.given c.self.inside.session n c.self.inside.more c.self.inside.target) (sym (c.audit.ensures.whole c.requires)) c.self.invariant,
)
