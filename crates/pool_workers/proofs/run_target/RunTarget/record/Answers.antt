use Rattle.proof_prelude.proofs.{sym, subst, IfErr}
use Rattle.pool_workers.proofs.{records, record_step}
use Rattle.pool_workers.specs.{IsStepFault}
use Rattle.pool_workers.proofs.run_target.RunTarget.record.Goals as goal

pub invariant_of-self : goal.invariant_of-self
invariant_of-self g c =
    records g.F.WriteFilter.refuses g.S.SourceBrand.source g.S.SourceBrand.plan g.T.TargetBrand.given c.self.inside.session c.self.inside.ledger.total c.self.inside.more c.self.inside.target c.record.new.self c.args.at c.self.invariant c.record.ensures.filter c.record.ensures.peer

pub returns-clause-step : goal.returns-clause-step
returns-clause-step g c = subst (λ r. IfErr r IsStepFault) (sym c.record.ensures.answer) (record_step g.S.SourceBrand.source c.self.inside.target.1 c.self.inside.session c.self.invariant.5)
