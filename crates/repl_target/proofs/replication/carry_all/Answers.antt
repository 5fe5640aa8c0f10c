use Rattle.proof_prelude.proofs.{rules, Err, sym, ap, ◌∙◌, subst, err_from_is_err_and, arith, common_steps}
use Rattle.repl_target.specs.{Reading, ReadsAll, ReadsUntil}
use Rattle.repl_target.proofs.{Started, all-copied, refused_plan, refused_begin, cut_short, ended_all, all-found, all-covered, all-reported}
use Rattle.repl_target.proofs.replication.carry_all.Goals as goal

pub returns-in_err-check_peers-clause-replicates : goal.returns-in_err-check_peers-clause-replicates
returns-in_err-check_peers-clause-replicates g c =
    let p = err_from_is_err_and c.from_residual.result c.from_residual.ensures.1 in
    refused_plan _ _ _ _ _ _ (sym c.in_err-check_peers.ensures) (p.1 ∙ ap Err p.2)

pub returns-in_err-start-clause-replicates : goal.returns-in_err-start-clause-replicates
returns-in_err-start-clause-replicates g c =
    let p = err_from_is_err_and c.from_residual-in_err-start.result c.from_residual-in_err-start.ensures.1 in
    refused_begin _ _ _ _ _ _ _ (sym c.in_ok-check_peers.ensures) c.in_err-start.ensures.refused c.in_err-start.ensures.err (p.1 ∙ ap Err p.2)

pub returns-in_err-read_windows-clause-replicates : goal.returns-in_err-read_windows-clause-replicates
returns-in_err-read_windows-clause-replicates g c =
    let p = err_from_is_err_and c.from_residual-in_err-read_windows.result c.from_residual-in_err-read_windows.ensures.1 in
    let from : Reading = record { since = c.in_ok-start.start; target = c.begin_plan.new.target.1 } in
    let begun = c.in_ok-start.ensures.ok in
    cut_short _ _ _ _ from _ _ _
    (record { planned = sym c.in_ok-check_peers.ensures; begun = begun.0; is = λ i. record { since = c.in_ok-start.ensures.start i; target = begun.1 i } })
    (subst (λ f. ReadsUntil (g.G.WriteFilter.refuses f) c.args.source.now.1.db c.args.plan.now from c.in_err-read_windows.field-0.0 c.read_windows.new.target.1) c.in_ok-start.ensures.filter c.in_err-read_windows.ensures.err)
    (p.1 ∙ ap Err p.2)

pub close-requires : goal.close-requires
close-requires g c =
    let from : Reading = record { since = c.in_ok-start.start; target = c.begin_plan.new.target.1 } in
    let begun = c.in_ok-start.ensures.ok in
    record {
      held = all-found (g.G.WriteFilter.refuses c.begin_plan.new.target.0) c.args.source.now.1 c.args.target.now.1 c.args.plan.now from _
          (record { planned = sym c.in_ok-check_peers.ensures; begun = begun.0; is = λ i. record { since = c.in_ok-start.ensures.start i; target = begun.1 i } })
          c.in_ok-start.ensures.source_law c.in_ok-start.ensures.target_law.sessions c.in_ok-read_windows.ensures.ok;
    }

pub returns : goal.returns
returns g c =
    let from : Reading = record { since = c.in_ok-start.start; target = c.begin_plan.new.target.1 } in
    let begun = c.in_ok-start.ensures.ok in
    let started : Started c.args.source.now.1 c.args.target.now.1 c.args.plan.now from = record { planned = sym c.in_ok-check_peers.ensures; begun = begun.0; is = λ i. record { since = c.in_ok-start.ensures.start i; target = begun.1 i } } in
    record {
      replicates =
          ended_all _ _ _ _ from _ _ _ _ started
          (subst (λ f. ReadsAll (g.G.WriteFilter.refuses f) c.args.source.now.1.db c.args.plan.now from c.read_windows.new.target.1) c.in_ok-start.ensures.filter c.in_ok-read_windows.ensures.ok)
          c.close.ensures.closes;
      filters = first_of (search rules, grind (arith, common_steps));
      source = first_of (search rules, grind (arith, common_steps));
      covered =
          all-covered (g.G.WriteFilter.refuses c.begin_plan.new.target.0) c.args.source.now.1 c.args.target.now.1 c.args.plan.now from _ started
          c.in_ok-start.ensures.source_law c.in_ok-start.ensures.target_law.sessions c.in_ok-read_windows.ensures.ok _ _ _ c.close.ensures.closes;
      report =
          all-reported (g.G.WriteFilter.refuses c.begin_plan.new.target.0) c.args.source.now.1 c.args.target.now.1 c.args.plan.now from _ started
          c.in_ok-start.ensures.source_law c.in_ok-start.ensures.target_law.sessions c.in_ok-read_windows.ensures.ok _ _ _ c.close.ensures.closes;
      copied =
          all-copied (g.G.WriteFilter.refuses c.begin_plan.new.target.0) c.args.source.now.1 c.args.target.now.1 c.args.plan.now from _ _ _ _ started
          c.in_ok-start.ensures.source_law c.in_ok-start.ensures.target_law.sessions c.in_ok-read_windows.ensures.ok c.close.ensures.closes;
    }
