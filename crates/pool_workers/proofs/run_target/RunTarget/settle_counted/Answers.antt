use Rattle.proof_prelude.proofs.{rules, ◌≤◌, length, subst, sym}
use Rattle.couch_base.specs.{ParcelValue}
use Rattle.repl_peer.specs.{taken}
use Rattle.pool_workers.specs.{IsAnswerOf}
use Rattle.pool_workers.proofs.{settles, taken_most, settle_step}
use Rattle.pool_workers.proofs.run_target.RunTarget.settle_counted.Goals as goal

pub invariant_of-self : goal.invariant_of-self
invariant_of-self g c =
    settles g.F.WriteFilter.refuses g.S.SourceBrand.source g.S.SourceBrand.plan g.T.TargetBrand.given c.self.inside.session c.self.inside.ledger.total c.self.inside.more c.self.inside.target c.settle_into-result.new.self c.into_ready-ready.result c.settle_into-result.result c.law.ensures.peer.sessions c.self.invariant c.settle_into-result.ensures.filter
    (subst (IsAnswerOf g.S.SourceBrand.source) (sym c.into_ready-ready.ensures.value) c.into_ready-ready.ensures.answer) c.settle_into-result.ensures.settles
    c.add.new.self.total (search rules)

pub returns-clause-most : goal.returns-clause-most
returns-clause-most g c =
    subst (λ (p : ParcelValue). taken c.settle_into-result.result (length p.docs) ≤ length p.docs) c.into_ready-ready.ensures.value
    (taken_most (g.F.WriteFilter.refuses c.self.inside.target.0) c.self.inside.target.1 c.self.inside.session c.into_ready-ready.result c.settle_into-result.new.self.1 c.settle_into-result.result c.law.ensures.peer.sessions c.settle_into-result.ensures.settles)

pub returns-clause-step : goal.returns-clause-step
returns-clause-step g c = settle_step g.S.SourceBrand.source (g.F.WriteFilter.refuses c.self.inside.target.0) c.self.inside.target.1 c.self.inside.session c.into_ready-ready.result c.settle_into-result.result c.settle_into-result.new.self.1 c.self.invariant.5 c.settle_into-result.ensures.settles
