use Rattle.proof_prelude.proofs.{[], length, refl}
use Rattle.journal_tasks.specs.Stating.{HasStated, IsStating, is_damaged, place_of, states_text, wrong_in}
use Rattle.couch_journal.specs.Status.{damaged_or, wrong_or}
use Rattle.couch_journal.specs.declared.ended.Outcome.TheVariants as outcomes
use Rattle.couch_journal.proofs.{lines_done, nothing_printed, states_outcome}
use Rattle.couch_journal.proofs.run.run_states.Goals as goal

pub returns-in-Ok-clause-ran : goal.returns-in-Ok-clause-ran
returns-in-Ok-clause-ran g c =
    let t = c.in-Ok.ensures.took in
    let u = c.args.unverified in (
      t.0,
      t.1,
      t.2,
      t.3,
      lines_done (HasStated u) (λ lines. []) (states_text u) (λ lines rest. damaged_or (is_damaged u lines rest) (length (place_of u lines).confirmed) (wrong_or (wrong_in lines rest) outcomes.Done)) _ t.0 t.1 c.in-Ok.task c.damaged_or.result
          (λ lines rest h. (h.text_is, states_outcome u lines rest t.1 c.in-Ok.task c.is_damaged.result c.confirmed_lines.result c.wrong.result c.wrong_or-otherwise.result c.damaged_or.result h c.is_damaged.ensures c.confirmed_lines.ensures c.wrong.ensures c.wrong_or-otherwise.ensures c.damaged_or.ensures)) c.in-Ok.ensures.ended t.4,
    )

pub returns-in-Err-clause-ran : goal.returns-in-Err-clause-ran
returns-in-Err-clause-ran g c =
    let t = c.in-Err.ensures.stopped in
    let u = c.args.unverified in (
      t.0,
      t.1,
      t.2,
      t.3,
      nothing_printed (IsStating u) (HasStated u) (λ lines. []) (states_text u) (λ lines rest. damaged_or (is_damaged u lines rest) (length (place_of u lines).confirmed) (wrong_or (wrong_in lines rest) outcomes.Done)) _ t.0 t.1 c.in-Err.fault refl
          (λ lines text state k. k.text_is) (λ lines rest text state h. h.text_is) t.4,
    )
