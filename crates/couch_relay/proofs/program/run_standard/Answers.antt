use Rattle.proof_prelude.proofs.{map, string_bytes, refl, sym, ◌∙◌}
use Rattle.script_engine.proofs.StreamLemmas.{none_known}
use Rattle.couch_relay.proofs.Running.{standard}
use Rattle.couch_relay.proofs.program.run_standard.Goals as goal

pub returns : goal.returns
returns g c =
    let held = c.in_ok-writer.ensures.held ∙ none_known c.new.ensures in (
      _,
      _,
      refl,
      refl,
      standard (map string_bytes c.args.words.now) _ c.run_words-ended.result _ _ _ _ _ _ (none_known c.new-reader.ensures.none_taken) held c.into_inner.ensures.held c.into_inner.ensures.sent c.run_words-ended.ensures.runs
          (c.run_words-ended.ensures.sent (none_known (c.in_ok-writer.ensures.sent ∙ c.new.ensures) ∙ sym held)),
    )
