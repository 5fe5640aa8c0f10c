use Rattle.proof_prelude.proofs.{Option, inr, refl, sym, subst, ◌∙◌, arith}
use Rattle.script_engine.specs.declared.fault.ScriptFault.TheVariants.{Memory}
use Rattle.relay_core.specs.Views.{request_view}
use Rattle.couch_relay.specs.declared.exchange.Dated.{Dated}
use Rattle.couch_relay.specs.Inbox.{pending}
use Rattle.couch_relay.specs.Runs.{Receives}
use Rattle.couch_relay.proofs.Counts.{sent_none, sent_more, sent_after, run_failed, read_stopped, write_stopped}
use Rattle.couch_relay.proofs.Lines.{any_err, none_of}
use Rattle.couch_relay.proofs.Running.{going_first, going_next, ran_out, ran_over, until_first, until_receiving, until_sending, until_stepping, until_turns}
use Rattle.couch_relay.proofs.run.make_requests.Goals as goal

pub returns-in_err-phase-clause-err : goal.returns-in_err-phase-clause-err
returns-in_err-phase-clause-err g c = any_err c.from_residual.result (until_first c.args.requests.now (g.R.ScriptRead.taken c.args.reader.now) (g.W.ScriptWrite.held c.args.writer.now) (pending c.args.inbox.now))

pub loop-turn-init : goal.loop-turn-init
loop-turn-init g c = record { inbox = c.requires; going = going_first _ _ _ _ c.in_ok-phase.phase c.in_ok-phase.ensures; sent = sent_none _; reader_unfailing = refl; writer_unfailing = refl }

pub returns-in_err-send-clause-err : goal.returns-in_err-send-clause-err
returns-in_err-send-clause-err g c =
    let e = c.in_err-send.ensures.err in
    any_err c.from_residual-in_err-send.result (until_sending _ _ _ _ _ _ _ _ c.loop-turn.invariant.going (g.W.ScriptWrite.held c.send.new.writer) (request_view c.request-request.result) e.0 e.1 c.request-request.ensures e.2 e.3)

pub returns-in-Some-clause-ok : goal.returns-in-Some-clause-ok
returns-in-Some-clause-ok g c = ran_over _ _ _ _ _ _ _ _ c.loop-turn.invariant.going (g.W.ScriptWrite.held c.send.new.writer) (request_view c.request-request.result) c.request-request.ensures c.in_ok-send.ensures.text c.in-Some.status c.in-Some.ensures

pub returns-in_err-dated-clause-err : goal.returns-in_err-dated-clause-err
returns-in_err-dated-clause-err g c =
    any_err c.from_residual-in_err-dated.result (until_receiving _ _ _ _ _ _ _ _ c.loop-turn.invariant.going (g.W.ScriptWrite.held c.send.new.writer) (request_view c.request-request.result) c.request-request.ensures c.in_ok-send.ensures.text (g.R.ScriptRead.taken c.receive.new.reader) c.in_err-dated.ensures.err)

pub returns-in_default-2-clause-ok : goal.returns-in_default-2-clause-ok
returns-in_default-2-clause-ok g c =
    let R = g.R.ScriptRead in
    let none = subst (λ (o : Option Dated). Receives (request_view c.request-request.result) (R.taken c.loop-turn.reader) (R.taken c.receive.new.reader) (R.ended c.receive.new.reader) (pending c.loop-turn.inbox) (pending c.receive.new.inbox) o) (none_of c.in_ok-dated.field-0 c.in_default-2.not-Some) c.in_ok-dated.ensures.response in
    ran_out _ _ _ _ _ _ _ _ c.loop-turn.invariant.going (g.W.ScriptWrite.held c.send.new.writer) (request_view c.request-request.result) c.request-request.ensures c.in_ok-send.ensures.text (R.taken c.receive.new.reader) (pending c.receive.new.inbox) (sym (none_of c.status_of.result c.in_default.not-Some) ∙ c.status_of.ensures) none

pub returns-in_err-phase-2-clause-err : goal.returns-in_err-phase-2-clause-err
returns-in_err-phase-2-clause-err g c =
    let R = g.R.ScriptRead in
    let some = subst (λ (o : Option Dated). Receives (request_view c.request-request.result) (R.taken c.loop-turn.reader) (R.taken c.receive.new.reader) (R.ended c.receive.new.reader) (pending c.loop-turn.inbox) (pending c.receive.new.inbox) o) c.in-Some-2.is c.in_ok-dated.ensures.response in
    any_err c.from_residual-in_err-phase-2.result (until_stepping _ _ _ _ _ _ _ _ c.loop-turn.invariant.going (g.W.ScriptWrite.held c.send.new.writer) (request_view c.request-request.result) c.request-request.ensures c.in_ok-send.ensures.text (R.ended c.receive.new.reader) (R.taken c.receive.new.reader) (pending c.receive.new.inbox) c.in-Some-2.dated some)

pub loop-turn-preserved : goal.loop-turn-preserved
loop-turn-preserved g c =
    let R = g.R.ScriptRead in
    let going = c.loop-turn.invariant.going in
    let some = subst (λ (o : Option Dated). Receives (request_view c.request-request.result) (R.taken c.loop-turn.reader) (R.taken c.receive.new.reader) (R.ended c.receive.new.reader) (pending c.loop-turn.inbox) (pending c.receive.new.inbox) o) c.in-Some-2.is c.in_ok-dated.ensures.response in
    record {
      inbox = c.in_ok-dated.ensures.inbox;
      going = going_next _ _ _ _ _ _ _ _ going (g.W.ScriptWrite.held c.send.new.writer) (request_view c.request-request.result) c.request-request.ensures c.in_ok-send.ensures.text (R.ended c.receive.new.reader) (R.taken c.receive.new.reader) (pending c.receive.new.inbox) c.in-Some-2.dated c.in_ok-phase-2.phase some (c.in_ok-phase-2.ensures going.history going.knows);
      sent = sent_more c.args.requests.now (request_view c.request-request.result) _ _ _ c.loop-turn._turn c.loop-turn.invariant.sent c.in_ok-send.ensures.text;
      reader_unfailing = c.in_ok-dated.ensures.counts ∙ c.loop-turn.invariant.reader_unfailing;
      writer_unfailing = c.in_ok-send.ensures.counts ∙ c.loop-turn.invariant.writer_unfailing;
    }

pub returns-clause-err : goal.returns-clause-err
returns-clause-err g c = until_turns _ _ _ _ _ _ _ _ c.loop-turn.invariant.going

pub returns-in_err-send-clause-counts : goal.returns-in_err-send-clause-counts
returns-in_err-send-clause-counts g c =
    let i = c.loop-turn.invariant in
    let s = sent_after _ _ _ _ c.in_err-send.ensures.err.0 i.sent c.in_err-send.ensures.err.3 in
    (s.0, s.1, run_failed c.from_residual-in_err-send.result c.in_err-send.field-0.0 (g.R.ScriptRead.reads c.loop-turn.reader) (g.R.ScriptRead.failures c.args.reader.now) (g.R.ScriptRead.failures c.loop-turn.reader) (g.W.ScriptWrite.failures c.args.writer.now) (g.W.ScriptWrite.failures c.send.new.writer) _ c.from_residual-in_err-send.ensures.1 (write_stopped _ _ _ _ _ _ _ _ i.reader_unfailing i.writer_unfailing c.in_err-send.ensures.counts))

pub returns-in-Some-clause-counts : goal.returns-in-Some-clause-counts
returns-in-Some-clause-counts g c =
    let i = c.loop-turn.invariant in
    let s = sent_after _ _ _ _ _ i.sent c.in_ok-send.ensures.text in
    (s.0, s.1, (i.reader_unfailing, c.in_ok-send.ensures.counts ∙ i.writer_unfailing))

pub returns-in_err-dated-clause-counts : goal.returns-in_err-dated-clause-counts
returns-in_err-dated-clause-counts g c =
    let i = c.loop-turn.invariant in
    let s = sent_after _ _ _ _ _ i.sent c.in_ok-send.ensures.text in
    (s.0, s.1, run_failed c.from_residual-in_err-dated.result c.in_err-dated.field-0.0 (g.R.ScriptRead.reads c.receive.new.reader) (g.R.ScriptRead.failures c.args.reader.now) (g.R.ScriptRead.failures c.receive.new.reader) (g.W.ScriptWrite.failures c.args.writer.now) (g.W.ScriptWrite.failures c.send.new.writer) _ c.from_residual-in_err-dated.ensures.1 (read_stopped _ _ _ _ _ _ _ _ i.reader_unfailing (c.in_ok-send.ensures.counts ∙ i.writer_unfailing) c.in_err-dated.ensures.counts))

pub returns-in_default-2-clause-counts : goal.returns-in_default-2-clause-counts
returns-in_default-2-clause-counts g c =
    let i = c.loop-turn.invariant in
    let s = sent_after _ _ _ _ _ i.sent c.in_ok-send.ensures.text in
    (s.0, s.1, (c.in_ok-dated.ensures.counts ∙ i.reader_unfailing, c.in_ok-send.ensures.counts ∙ i.writer_unfailing))

pub returns-in_err-phase-2-clause-counts : goal.returns-in_err-phase-2-clause-counts
returns-in_err-phase-2-clause-counts g c =
    let i = c.loop-turn.invariant in
    let s = sent_after _ _ _ _ _ i.sent c.in_ok-send.ensures.text in
    (s.0, s.1, run_failed c.from_residual-in_err-phase-2.result Memory (g.R.ScriptRead.reads c.receive.new.reader) (g.R.ScriptRead.failures c.args.reader.now) (g.R.ScriptRead.failures c.receive.new.reader) (g.W.ScriptWrite.failures c.args.writer.now) (g.W.ScriptWrite.failures c.send.new.writer) _ c.from_residual-in_err-phase-2.ensures.1 (c.in_ok-dated.ensures.counts ∙ i.reader_unfailing, c.in_ok-send.ensures.counts ∙ i.writer_unfailing))

pub returns-clause-counts : goal.returns-clause-counts
returns-clause-counts g c =
    let i = c.loop-turn.invariant in
    (i.sent.0, i.sent.1, (inr (omega (arith, c.loop-turn-test.false, i.sent.2), i.reader_unfailing), i.writer_unfailing))
