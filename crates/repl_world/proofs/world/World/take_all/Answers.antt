use Rattle.proof_prelude.proofs.{◌≡◌, ◌∙◌, subst, refl}
use Rattle.repl_world.specs.{happens, CutShort}
use Rattle.repl_world.proofs.{run_next, run_all, stopped_at_step}
use Rattle.repl_world.proofs.world.World.take_all.Goals as goal

pub loop-step-init : goal.loop-step-init
loop-step-init g c = (refl, refl, λ h. h)

pub returns-in_err-take-clause-filters : goal.returns-in_err-take-clause-filters
returns-in_err-take-clause-filters g c = c.in_err-take.ensures.filters ∙ c.loop-step.invariant.0

pub returns-in_err-take-clause-memory : goal.returns-in_err-take-clause-memory
returns-in_err-take-clause-memory g c =
    let refuses = g.F.WriteFilter.refuses c.args.self.now.0.1 in
    let cut = subst (λ f. CutShort (g.F.WriteFilter.refuses f.1) c.loop-step.self.1 c.step-item.result c.take.new.self.1) c.loop-step.invariant.0 c.in_err-take.ensures.err in
    stopped_at_step refuses c.args.self.now.1 c.loop-step.self.1 c.take.new.self.1 c.args.steps.now c.loop-step.step-index c.step-item.result c.from_residual.result c.loop-step-test.true c.step-item.is c.loop-step.invariant.1 cut

pub returns-in_err-take-clause-tied : goal.returns-in_err-take-clause-tied
returns-in_err-take-clause-tied g c = λ h. c.in_err-take.ensures.tied (c.loop-step.invariant.2 h)

pub loop-step-preserved : goal.loop-step-preserved
loop-step-preserved g c =
    let refuses = g.F.WriteFilter.refuses c.args.self.now.0.1 in
    let is = subst (λ f. c.take.new.self.1 ≡ happens (g.F.WriteFilter.refuses f.1) c.loop-step.self.1 c.step-item.result) c.loop-step.invariant.0 c.in_ok-take.ensures.ok in (
      c.in_ok-take.ensures.filters ∙ c.loop-step.invariant.0,
      run_next refuses c.args.self.now.1 c.loop-step.self.1 c.take.new.self.1 c.args.steps.now c.loop-step.step-index c.step-item.result c.loop-step-test.true c.step-item.is c.loop-step.invariant.1 is,
      λ h. c.in_ok-take.ensures.tied (c.loop-step.invariant.2 h),
    )

pub returns-clause-filters : goal.returns-clause-filters
returns-clause-filters g c = c.loop-step.invariant.0

pub returns-clause-ok : goal.returns-clause-ok
returns-clause-ok g c = run_all (g.F.WriteFilter.refuses c.args.self.now.0.1) c.args.self.now.1 c.loop-step.self.1 c.args.steps.now c.loop-step.step-index c.loop-step-test.false c.loop-step.invariant.1

pub returns-clause-tied : goal.returns-clause-tied
returns-clause-tied g c = c.loop-step.invariant.2
