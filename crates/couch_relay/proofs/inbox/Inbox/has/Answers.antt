use Rattle.proof_prelude.proofs.{inr, arith}
use Rattle.couch_relay.proofs.Lines.{any_err, took_more, filled_more}
use Rattle.couch_relay.proofs.inbox.Inbox.has.Goals as goal

pub returns-in_err-fill-clause-err : goal.returns-in_err-fill-clause-err
returns-in_err-fill-clause-err g c = any_err c.from_residual.result (took_more _ _ _ _ _ c.loop-turn.invariant.filled c.in_err-fill.ensures.err)

pub returns-then-not-branch-clause-filled : goal.returns-then-not-branch-clause-filled
returns-then-not-branch-clause-filled g c = filled_more _ _ _ _ _ _ c.loop-turn.invariant.filled c.in_ok-fill.ensures.filled

pub returns-clause-counts : goal.returns-clause-counts
returns-clause-counts g c = inr (omega (arith, c.loop-turn-test.false, c.loop-turn.invariant.reads), c.loop-turn.invariant.unfailing)
