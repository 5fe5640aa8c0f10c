use Rattle.proof_prelude.proofs.{Err, sym, subst}
use Rattle.pool_workers.proofs.{appends, append_step, stays}
use Rattle.pool_workers.specs.{IsNext}
use Rattle.pool_workers.proofs.run_target.RunTarget.append.Goals as goal

pub invariant_of-self : goal.invariant_of-self
invariant_of-self g c =
    appends g.F.WriteFilter.refuses g.S.SourceBrand.source g.S.SourceBrand.plan g.T.TargetBrand.given c.self.inside.session c.self.inside.ledger.total c.self.inside.more c.one_less-less.result c.self.inside.target c.append_prepared.new.self c.into_ready-ready.result c.in-Ok.field-0
    c.self.invariant c.append_prepared.ensures.filter (subst (IsNext g.S.SourceBrand.source g.S.SourceBrand.plan) (sym c.into_ready-ready.ensures.value) c.into_ready-ready.ensures.page)
    c.one_less-less.ensures c.in-Ok.ensures.answer c.in-Ok.ensures.ok

pub invariant_of-self-in-Err : goal.invariant_of-self-in-Err
invariant_of-self-in-Err g c =
    stays g.F.WriteFilter.refuses g.S.SourceBrand.source g.S.SourceBrand.plan g.T.TargetBrand.given c.self.inside.session c.self.inside.ledger.total c.self.inside.more c.self.inside.target c.append_prepared.new.self
    c.self.invariant c.append_prepared.ensures.filter c.in-Err.ensures.err

pub returns-in-Err-clause-step : goal.returns-in-Err-clause-step
returns-in-Err-clause-step g c =
    append_step g.S.SourceBrand.source g.S.SourceBrand.plan c.self.inside.target.1 c.self.inside.session c.into_ready-ready.result c.self.invariant.5
    (subst (IsNext g.S.SourceBrand.source g.S.SourceBrand.plan) (sym c.into_ready-ready.ensures.value) c.into_ready-ready.ensures.page) (Err c.in-Err.fault) c.in-Err.ensures.answer
