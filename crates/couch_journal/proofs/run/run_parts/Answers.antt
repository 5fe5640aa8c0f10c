use Rattle.proof_prelude.proofs.{ap, ◌∙◌}
use Rattle.journal_tasks.specs.Splitting.{HasSplit, IsSplitting, complete_text, parts_text, unended_line}
use Rattle.couch_journal.specs.Status.{wrong_or}
use Rattle.couch_journal.specs.declared.ended.Outcome.TheVariants as outcomes
use Rattle.couch_journal.proofs.{lines_done, lines_part}
use Rattle.couch_journal.proofs.run.run_parts.Goals as goal

pub returns-in-Ok-clause-ran : goal.returns-in-Ok-clause-ran
returns-in-Ok-clause-ran g c =
    let t = c.in-Ok.ensures.took in (
      t.0,
      t.1,
      t.2,
      t.3,
      lines_done (HasSplit (c.args.bytes, c.args.lines)) (complete_text (c.args.bytes, c.args.lines)) (parts_text (c.args.bytes, c.args.lines)) (λ lines rest. wrong_or (unended_line lines rest) outcomes.Done) _ t.0 t.1 c.in-Ok.task c.wrong_or.result
          (λ lines rest h. (h.text_is, c.wrong_or.ensures ∙ ap (λ o. wrong_or o outcomes.Done) (c.wrong.ensures ∙ h.wrong))) c.in-Ok.ensures.ended t.4,
    )

pub returns-in-Err-clause-ran : goal.returns-in-Err-clause-ran
returns-in-Err-clause-ran g c =
    let t = c.in-Err.ensures.stopped in (
      t.0,
      t.1,
      t.2,
      t.3,
      lines_part (IsSplitting (c.args.bytes, c.args.lines)) (HasSplit (c.args.bytes, c.args.lines)) (complete_text (c.args.bytes, c.args.lines)) (parts_text (c.args.bytes, c.args.lines)) (λ lines rest. wrong_or (unended_line lines rest) outcomes.Done) _ t.0 t.1 c.in-Err.fault
          (λ lines text state k. k.text_is) (λ lines rest text state h. h.text_is) t.4,
    )
