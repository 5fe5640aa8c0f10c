use Rattle.proof_prelude.proofs.{◌&&◌, ◌||◌, [], is_some, length, nat_eq, option_map, refl}
use Rattle.journal_core.specs.Places.{is_confirmed, place_after}
use Rattle.journal_tasks.specs.Confirming.{HasConfirmed, IsConfirming, confirm_text, is_not_found, is_without_sums}
use Rattle.couch_journal.specs.Status.{confirm_outcome}
use Rattle.couch_journal.proofs.{confirmed_outcome, lines_done, nothing_printed}
use Rattle.couch_journal.proofs.run.run_confirmed.Goals as goal

pub returns-in-Ok-clause-ran : goal.returns-in-Ok-clause-ran
returns-in-Ok-clause-ran g c =
    let t = c.in-Ok.ensures.took in
    let at = option_map (λ at. at.now) c.args.at in (
      t.0,
      t.1,
      t.2,
      t.3,
      lines_done (HasConfirmed at) (λ lines. []) (λ lines rest. confirm_text at lines) (λ lines rest. confirm_outcome (is_not_found at lines) (is_some at || nat_eq (length rest) 0 && is_confirmed (place_after lines)) (is_without_sums lines rest) (length (place_after lines).confirmed)) _ t.0 t.1 c.in-Ok.task c.confirm_outcome.result
          (λ lines rest h. (h.text_is, confirmed_outcome at lines rest t.1 c.in-Ok.task c.is_not_found.result c.has_seq-given.result c.is_confirmed-sure.result (c.has_seq-given.result || c.is_confirmed-sure.result) c.is_without_sums.result c.confirmed_lines.result c.confirm_outcome.result h c.is_not_found.ensures c.has_seq-given.ensures c.is_confirmed-sure.ensures refl c.is_without_sums.ensures c.confirmed_lines.ensures c.confirm_outcome.ensures)) c.in-Ok.ensures.ended t.4,
    )

pub returns-in-Err-clause-ran : goal.returns-in-Err-clause-ran
returns-in-Err-clause-ran g c =
    let t = c.in-Err.ensures.stopped in
    let at = option_map (λ at. at.now) c.args.at in (
      t.0,
      t.1,
      t.2,
      t.3,
      nothing_printed (IsConfirming at) (HasConfirmed at) (λ lines. []) (λ lines rest. confirm_text at lines) (λ lines rest. confirm_outcome (is_not_found at lines) (is_some at || nat_eq (length rest) 0 && is_confirmed (place_after lines)) (is_without_sums lines rest) (length (place_after lines).confirmed)) _ t.0 t.1 c.in-Err.fault refl
          (λ lines text state k. k.text_is) (λ lines rest text state h. h.text_is) t.4,
    )
