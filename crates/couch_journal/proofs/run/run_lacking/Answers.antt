use Rattle.proof_prelude.proofs.{[], is_none}
use Rattle.journal_tasks.specs.Missing.{HasLacked, IsLacking, missing_in_input, missing_text, wrong_diffed}
use Rattle.couch_journal.specs.Status.{other_or_done, wrong_or}
use Rattle.couch_journal.proofs.{lacking_outcome, lines_done, lines_part}
use Rattle.couch_journal.proofs.run.run_lacking.Goals as goal

pub returns-in-Ok-clause-ran : goal.returns-in-Ok-clause-ran
returns-in-Ok-clause-ran g c =
    let t = c.in-Ok.ensures.took in (
      t.0,
      t.1,
      t.2,
      t.3,
      lines_done HasLacked (λ lines. []) missing_text (λ lines rest. wrong_or (wrong_diffed lines rest) (other_or_done (is_none (missing_in_input lines rest)))) _ t.0 t.1 c.in-Ok.task c.wrong_or.result
          (λ lines rest h. (h.text_is, lacking_outcome lines rest t.1 c.in-Ok.task _ _ _ _ h c.wrong.ensures c.is_refused.ensures c.other_or_done.ensures c.wrong_or.ensures)) c.in-Ok.ensures.ended t.4,
    )

pub returns-in-Err-clause-ran : goal.returns-in-Err-clause-ran
returns-in-Err-clause-ran g c =
    let t = c.in-Err.ensures.stopped in (
      t.0,
      t.1,
      t.2,
      t.3,
      lines_part IsLacking HasLacked (λ lines. []) missing_text (λ lines rest. wrong_or (wrong_diffed lines rest) (other_or_done (is_none (missing_in_input lines rest)))) _ t.0 t.1 c.in-Err.fault
          (λ lines text state k. k.text_is) (λ lines rest text state h. h.text_is) t.4,
    )
