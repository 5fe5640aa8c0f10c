use Rattle.proof_prelude.proofs.{◌≡◌, ◌==◌, true, cond, Ok, Err, sym, ap, ◌∙◌, eq-eqb}
use Rattle.range_front.specs.{low_water}
use Rattle.repl_peer.specs.{SessionValue, report_of, recorded_at}
use Rattle.repl_peer.specs.declared.fault.TargetFault.TheVariants as faults
use Rattle.repl_peer.proofs.session.Session.conclude.Goals as goal

whole : (c : goal.After-report) → (low_water c.args.self.now.front == c.args.self.now.goal) ≡ true
whole c =
    ap (λ (s : SessionValue). low_water s.front == s.goal) (sym c.self.view_is)
    ∙ eq-eqb (low_water c.self.inside.front.front) c.self.inside.scope.goal (sym c.low_water-low_water.ensures.value ∙ c.if-low_water-self.false)

pub returns : goal.returns
returns c =
    let s = c.args.self.now in
    record {
      answer =
          ap Ok (c.report.ensures ∙ ap report_of c.record.ensures.session)
          ∙ ap (λ b. cond b (Ok (report_of (record s { recorded = low_water s.front }))) (Err (faults.Unfinished (low_water s.front)))) (sym (whole c));
      session = c.record.ensures.session ∙ ap (λ b. cond b (recorded_at c.args.at s) s) (sym (whole c));
    }
