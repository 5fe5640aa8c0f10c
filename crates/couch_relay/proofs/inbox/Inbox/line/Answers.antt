use Rattle.proof_prelude.proofs.{inr, ap, ◌∙◌, arith, length-drop}
use Rattle.std.specs.List.{position_or_len}
use Rattle.script_engine.specs.Lines.{is_line_end, has_line_end}
use Rattle.couch_relay.specs.Inbox.{pending}
use Rattle.couch_relay.proofs.Lines.{any_err, has_line, no_line, rest_is, took_more}
use Rattle.couch_relay.proofs.inbox.Inbox.line.Goals as goal

pub returns-then-size-len-clause-found : goal.returns-then-size-len-clause-found
returns-then-size-len-clause-found g c =
    has_line (pending c.loop-turn.self) c.line_len-size.result
    (c.line_len-size.ensures ∙ ap (position_or_len is_line_end) (rest_is c.as_slice.result.now c.loop-turn.self.held.items c.loop-turn.self.at c.as_slice.ensures.value))
    (omega (arith, c.if-size-len.true, c.len.ensures, c.loop-turn.self.held.ok.0, length-drop c.loop-turn.self.at c.loop-turn.self.held.items))

pub returns-in_err-fill-clause-err : goal.returns-in_err-fill-clause-err
returns-in_err-fill-clause-err g c = any_err c.from_residual.result (took_more _ _ _ _ _ c.loop-turn.invariant.filled c.in_err-fill.ensures.err)

pub returns-then-not-branch-clause-found : goal.returns-then-not-branch-clause-found
returns-then-not-branch-clause-found g c =
    let e = c.in_ok-fill.ensures.end c.if-not-branch.true in (
      e.0,
      ap has_line_end e.1
          ∙ no_line (pending c.loop-turn.self) c.line_len-size.result
          (c.line_len-size.ensures ∙ ap (position_or_len is_line_end) (rest_is c.as_slice.result.now c.loop-turn.self.held.items c.loop-turn.self.at c.as_slice.ensures.value))
          (omega (arith, c.if-size-len.false, c.len.ensures, c.loop-turn.self.held.ok.0, length-drop c.loop-turn.self.at c.loop-turn.self.held.items)),
    )

pub returns-clause-counts : goal.returns-clause-counts
returns-clause-counts g c = inr (omega (arith, c.loop-turn-test.false, c.loop-turn.invariant.reads), c.loop-turn.invariant.unfailing)
