use Rattle.proof_prelude.proofs.{◌≡◌, Some, Ok, Err, sym, ap, ◌∙◌, subst, err_from_is_err_and}
use Rattle.repl_peer.specs.{PeerValue, SessionValue, session_in}
use Rattle.repl_target.proofs.{closed-found}
use Rattle.repl_target.proofs.replication.close.Goals as goal

pub record_at_source-requires : goal.record_at_source-requires
record_at_source-requires g c =
    let found = closed-found c.args.target.now.1 c.args.plan.now c.requires.held.0 c.requires.held.1 in
    record { held = subst (λ (q : PeerValue). (s : SessionValue) × (session_in q.sessions c.args.plan.now.session ≡ Some s)) (sym c.record_at_target-concluded.ensures.closed) found }

-- the allocation for the entry failed at the source
pub returns-in_err-record_at_source-clause-closes : goal.returns-in_err-record_at_source-clause-closes
returns-in_err-record_at_source-clause-closes g c =
    let p = err_from_is_err_and c.from_residual.result c.from_residual.ensures.1 in
    let told = c.in_err-record_at_source.ensures.told in
    record {
      at_target = c.record_at_target-concluded.ensures.closed;
      entry = told.0;
      told = told.1;
      put = Err c.in_err-record_at_source.field-0.0;
      at_source = told.2;
      answer = p.1 ∙ ap Err p.2;
    }

pub returns-clause-closes : goal.returns-clause-closes
returns-clause-closes g c =
    let told = c.in_ok-record_at_source.ensures.told in
    record {
      at_target = c.record_at_target-concluded.ensures.closed;
      entry = told.0;
      told = told.1;
      put = Ok tt;
      at_source = told.2;
      answer = c.record_at_target-concluded.ensures.answer;
    }
