use Rattle.journal_tasks.specs.Selecting.{HasSelected, IsSelecting, choice_of, first_copy, second_copy, selected_text}
use Rattle.couch_journal.specs.Runs.{select_outcome}
use Rattle.couch_journal.proofs.{lines_done, nothing_printed, selected_nothing, selected_outcome}
use Rattle.couch_journal.proofs.run.run_filtered.Goals as goal

pub returns-in-Ok-clause-ran : goal.returns-in-Ok-clause-ran
returns-in-Ok-clause-ran g c =
    let t = c.in-Ok.ensures.took in
    let choice = choice_of c.args.size c.args.filter in (
      t.0,
      t.1,
      t.2,
      t.3,
      lines_done (HasSelected choice) (selected_text choice) (λ lines rest. selected_text choice lines) (λ lines rest. select_outcome choice (first_copy choice.size lines) (second_copy choice.size lines) rest) _ t.0 t.1 c.in-Ok.task c.damaged_or.result
          (λ lines rest h. (h.text_is, selected_outcome choice lines rest t.1 c.in-Ok.task c.is_damaged.result c.differs.result c.lacks.result c.confirmed_lines.result c.wrong.result c.missing_or_done.result c.differs_or-found.result c.wrong_or-otherwise.result c.damaged_or.result h c.is_damaged.ensures c.confirmed_lines.ensures c.wrong.ensures c.differs.ensures c.lacks.ensures c.missing_or_done.ensures c.differs_or-found.ensures c.wrong_or-otherwise.ensures c.damaged_or.ensures)) c.in-Ok.ensures.ended t.4,
    )

pub returns-in-Err-clause-ran : goal.returns-in-Err-clause-ran
returns-in-Err-clause-ran g c =
    let t = c.in-Err.ensures.stopped in
    let choice = choice_of c.args.size c.args.filter in (
      t.0,
      t.1,
      t.2,
      t.3,
      nothing_printed (IsSelecting choice) (HasSelected choice) (selected_text choice) (λ lines rest. selected_text choice lines) (λ lines rest. select_outcome choice (first_copy choice.size lines) (second_copy choice.size lines) rest) _ t.0 t.1 c.in-Err.fault (selected_nothing choice)
          (λ lines text state k. k.text_is) (λ lines rest text state h. h.text_is) t.4,
    )
