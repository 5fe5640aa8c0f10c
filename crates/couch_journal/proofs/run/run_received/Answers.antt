use Rattle.journal_tasks.specs.Receiving.{HasReceived, IsReceiving, lacks_any, passed_on, received_text, wrong_received}
use Rattle.couch_journal.specs.Status.{missing_or_done, wrong_or}
use Rattle.couch_journal.proofs.{lines_done, lines_part, received_outcome}
use Rattle.couch_journal.proofs.run.run_received.Goals as goal

pub returns-in-Ok-clause-ran : goal.returns-in-Ok-clause-ran
returns-in-Ok-clause-ran g c =
    let t = c.in-Ok.ensures.took in
    let only = c.args.only_lacks in (
      t.0,
      t.1,
      t.2,
      t.3,
      lines_done (HasReceived only) (passed_on only) (received_text only) (λ lines rest. wrong_or (wrong_received lines rest) (missing_or_done (lacks_any lines))) _ t.0 t.1 c.in-Ok.task c.wrong_or.result
          (λ lines rest h. (h.text_is, received_outcome only lines rest t.1 c.in-Ok.task _ _ _ _ h c.wrong.ensures c.lacks.ensures c.missing_or_done.ensures c.wrong_or.ensures)) c.in-Ok.ensures.ended t.4,
    )

pub returns-in-Err-clause-ran : goal.returns-in-Err-clause-ran
returns-in-Err-clause-ran g c =
    let t = c.in-Err.ensures.stopped in
    let only = c.args.only_lacks in (
      t.0,
      t.1,
      t.2,
      t.3,
      lines_part (IsReceiving only) (HasReceived only) (passed_on only) (received_text only) (λ lines rest. wrong_or (wrong_received lines rest) (missing_or_done (lacks_any lines))) _ t.0 t.1 c.in-Err.fault
          (λ lines text state k. k.text_is) (λ lines rest text state h. h.text_is) t.4,
    )
