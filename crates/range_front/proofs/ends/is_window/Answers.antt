use Rattle.proof_prelude.proofs.{eqb, sym, ap, ◌∙◌}
use Rattle.range_front.proofs.{begin_at, begin_at-before, has-found, has-missed}
use Rattle.range_front.proofs.ends.is_window.Goals as goal

pub returns-in_default : goal.returns-in_default
returns-in_default c =
    sym (has-missed c.args.start c.args.ends.now c.args.lo c.args.hi c.in_default.field-0 c.binary_search.result c.requires c.binary_search.ensures.position c.in_default.is)

pub returns-then-place-eq0 : goal.returns-then-place-eq0
returns-then-place-eq0 c =
    let es = c.args.ends.now in
    sym (has-found c.args.start es c.args.lo c.args.hi c.in-Ok.place c.binary_search.result c.requires c.binary_search.ensures.position c.in-Ok.is
    ∙ ap (λ n. eqb (begin_at c.args.start es n) c.args.lo) c.if-place-eq0.true)

pub returns : goal.returns
returns c =
    let es = c.args.ends.now in
    sym (has-found c.args.start es c.args.lo c.args.hi c.in-Ok.place c.binary_search.result c.requires c.binary_search.ensures.position c.in-Ok.is
    ∙ ap (λ n. eqb n c.args.lo) (begin_at-before c.args.start es c.in-Ok.place c.if-place-eq0.false))
