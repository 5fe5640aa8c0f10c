use Rattle.proof_prelude.proofs.{Ok, Err, refl, err_from_is_err_and}
use Rattle.repl_pool.proofs.{puts_entry}
use Rattle.repl_pool.proofs.end.put_entry.Goals as goal

pub returns-in_err-report-clause-puts : goal.returns-in_err-report-clause-puts
returns-in_err-report-clause-puts g c =
    let p = err_from_is_err_and c.from_residual.result c.from_residual.ensures.1 in
    rw p.1 (puts_entry c.args.source.now.1 c.args.target.now.1 c.record_at_source-put.new.source.1 c.args.plan.now (Err _) c.record_at_source-put.result c.record_at_source-put.ensures.told tt)

pub returns-in_err-put-clause-puts : goal.returns-in_err-put-clause-puts
returns-in_err-put-clause-puts g c =
    let p = err_from_is_err_and c.from_residual-in_err-put.result c.from_residual-in_err-put.ensures.1 in
    rw p.1 (puts_entry c.args.source.now.1 c.args.target.now.1 c.record_at_source-put.new.source.1 c.args.plan.now (Err _) c.record_at_source-put.result c.record_at_source-put.ensures.told tt)

pub returns-clause-puts : goal.returns-clause-puts
returns-clause-puts g c =
    puts_entry c.args.source.now.1 c.args.target.now.1 c.record_at_source-put.new.source.1 c.args.plan.now (Ok c.in_ok-report.report) (Ok tt) c.in_ok-put.ensures.told refl
