use Rattle.proof_prelude.proofs.{map, string_bytes, refl, ◌∙◌}
use Rattle.script_engine.proofs.StreamLemmas.{none_known}
use Rattle.couch_journal.proofs.{standard}
use Rattle.couch_journal.proofs.program.run_standard.Goals as goal

pub returns : goal.returns
returns g c =
    let flush = c.flushed-ended.ensures in
    (_, _, refl, refl, standard (map string_bytes c.args.words.now) _ c.run_words-first.result c.flushed-ended.result _ _ _ _ _ _ _ (none_known c.new-reader.ensures.none_taken) (c.in_ok-writer.ensures.held ∙ none_known c.new.ensures) flush.kept c.into_inner.ensures.held c.into_inner.ensures.sent c.run_words-first.ensures.ran flush.flushed)
