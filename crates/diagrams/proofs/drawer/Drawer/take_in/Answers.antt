use Rattle.proof_prelude.proofs.{Some, sym, ap, subst, ◌∙◌, option_map}
use Rattle.diagrams.specs.Drawing.{IsNext}
use Rattle.diagrams.proofs.{none_open}
use Rattle.diagrams.proofs.drawer.Drawer.take_in.Goals as goal

pub returns-in_ok-draw_whole-in-Some-clause-ok : goal.returns-in_ok-draw_whole-in-Some-clause-ok
returns-in_ok-draw_whole-in-Some-clause-ok c =
    let self = c.args.self.now in
    let told = c.in_ok-told.told in
    let d = c.in-Some.whole in
    let from_old = subst (λ b. IsNext b told c.in_ok-begun.begun c.in_ok-begun.whole) c.take-begun.ensures.value c.in_ok-begun.ensures in
    let whole = subst (λ w. IsNext self.begun told c.in_ok-begun.begun w) c.in-Some.is from_old in
    let none = none_open self.begun c.in_ok-begun.begun told d whole in
    record {
      told = told;
      whole = Some d;
      tells = c.in_ok-told.ensures;
      next = subst (λ b. IsNext self.begun told b (Some d)) (none ∙ sym (c.draw_whole.ensures.begun ∙ c.take-begun.ensures.after)) whole;
      drawn = c.in_ok-draw_whole-in-Some.ensures.draws;
      form = c.draw_whole.ensures.form;
      db = ap (option_map (λ s. s.now)) c.draw_whole.ensures.db;
      tally = c.with_told-tally.ensures;
    }
