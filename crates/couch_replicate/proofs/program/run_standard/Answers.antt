use Rattle.proof_prelude.proofs.{◌≡◌, true, map, string_bytes, refl, ◌∙◌}
use Rattle.script_engine.proofs.StreamLemmas.{none_known}
use Rattle.couch_replicate.proofs.{runs_standard}
use Rattle.couch_replicate.proofs.program.run_standard.Goals as goal

pub returns : goal.returns
returns g c =
    let new = c.run_words-ended.new.reader in
    let left = g.H.Reader.Read.remaining in
    (_, _, refl, refl, runs_standard (map string_bytes c.args.words.now) (new.ended ≡ true) c.run_words-ended.result (left c.new-reader.result.inner) (left new.inner) _ new.taken.bytes _ _ _ _ (none_known c.new-reader.ensures.none_taken) (c.in_ok-writer.ensures.held ∙ none_known c.new.ensures) c.into_inner.ensures.held c.into_inner.ensures.sent c.run_words-ended.ensures)
