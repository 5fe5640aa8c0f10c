use Rattle.proof_prelude.proofs.{ap, ◌∙◌, []}
use Rattle.journal_tasks.specs.Conflicting.{HasConflicts, IsConflicting, conflicts_text}
use Rattle.journal_tasks.specs.Counting.{wrong_line}
use Rattle.journal_tasks.specs.Lists.{is_wrong}
use Rattle.couch_journal.specs.Status.{wrong_or}
use Rattle.couch_journal.specs.declared.ended.Outcome.TheVariants as outcomes
use Rattle.couch_journal.proofs.{lines_done, lines_part}
use Rattle.couch_journal.proofs.run.run_conflicts.Goals as goal

pub returns-in-Ok-clause-ran : goal.returns-in-Ok-clause-ran
returns-in-Ok-clause-ran g c =
    let t = c.in-Ok.ensures.took in (
      t.0,
      t.1,
      t.2,
      t.3,
      lines_done HasConflicts (λ lines. []) conflicts_text (λ lines rest. wrong_or (wrong_line is_wrong lines rest) outcomes.Done) _ t.0 t.1 c.in-Ok.task c.wrong_or.result
          (λ lines rest h. (h.text_is, c.wrong_or.ensures ∙ ap (λ o. wrong_or o outcomes.Done) (c.wrong.ensures ∙ h.wrong))) c.in-Ok.ensures.ended t.4,
    )

pub returns-in-Err-clause-ran : goal.returns-in-Err-clause-ran
returns-in-Err-clause-ran g c =
    let t = c.in-Err.ensures.stopped in (
      t.0,
      t.1,
      t.2,
      t.3,
      lines_part IsConflicting HasConflicts (λ lines. []) conflicts_text (λ lines rest. wrong_or (wrong_line is_wrong lines rest) outcomes.Done) _ t.0 t.1 c.in-Err.fault
          (λ lines text state k. k.text_is) (λ lines rest text state h. h.text_is) t.4,
    )
