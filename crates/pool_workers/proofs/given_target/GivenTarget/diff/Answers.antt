use Rattle.proof_prelude.proofs.{sym, ap, ◌∙◌, IfOk-weaker, nil_from_length}
use Rattle.couch_base.specs.{revs_diff, wanted}
use Rattle.pool_workers.proofs.{some_from}
use Rattle.pool_workers.proofs.given_target.GivenTarget.diff.Goals as goal

pub returns-in-Some-clause-given : goal.returns-in-Some-clause-given
returns-in-Some-clause-given g c =
    let e = c.args.self.now.empty c.in-Some.none c.in-Some.is in
    let none = nil_from_length c.in-Some.none.docs e.0 in
    IfOk-weaker c.revs_diff.result _ _
    (λ asked k. some_from g.T.TargetBrand.given _
    (λ t f. k ∙ (λ i. record { lo = (c.window.ensures.value i).lo; hi = (c.window.ensures.value i).hi; docs = wanted ((none ∙ sym (nil_from_length t.0.1.db.docs (e.1 t f))) i) (c.window.ensures.value i).rows })))
    c.revs_diff.ensures.asked

pub returns-in-Some-clause-whole : goal.returns-in-Some-clause-whole
returns-in-Some-clause-whole g c =
    let e = c.args.self.now.empty c.in-Some.none c.in-Some.is in
    IfOk-weaker c.revs_diff.result _ _
    (λ asked k. (c.in-Some.none, nil_from_length c.in-Some.none.docs e.0, k ∙ ap (revs_diff c.in-Some.none) c.window.ensures.value))
    c.revs_diff.ensures.asked
