use Rattle.proof_prelude.proofs.{[], ◌++◌, inl, refl, ap, subst, ◌∙◌, Appends-nil}
use Rattle.couch_journal.specs.Runs.{IsNotShown}
use Rattle.couch_journal.proofs.{response_wrote}
use Rattle.couch_journal.proofs.run.run_response.Goals as goal

pub returns-in-Err-clause-ran : goal.returns-in-Err-clause-ran
returns-in-Err-clause-ran g c = let i = c.in-Err.ensures.err in (i.0, [], i.1, Appends-nil (g.W.ScriptWrite.held c.args.writer.now), inl refl)

pub returns-in-Ok-read_response-clause-ran : goal.returns-in-Ok-read_response-clause-ran
returns-in-Ok-read_response-clause-ran g c =
    let shown = c.in-Ok-read_response.ensures.ok in
    response_wrote c.args.response _ _ _ _ _ _ _ c.as_slice.result.now c.in-Ok.body.items shown.0 c.as_slice-in-Ok-read_response.result.now c.in-Ok-read_response.refused c.write_shown.result c.write_shown.ensures.ok c.write_shown.ensures.err
    c.as_slice.ensures.value (c.as_slice-in-Ok-read_response.ensures.value ∙ shown.1 ∙ ap (λ z. z ++ shown.0) c.new-text.ensures.items) shown.2 c.in-Ok.ensures.ended c.in-Ok.ensures.took

pub returns-clause-ran : goal.returns-clause-ran
returns-clause-ran g c = (
  c.in-Ok.body.items,
  [],
  c.in-Ok.ensures.took,
  Appends-nil (g.W.ScriptWrite.held c.args.writer.now),
  (c.in-Ok.ensures.ended, (refl, subst (λ z. IsNotShown c.args.response z c.in-Err-read_response.said) c.as_slice.ensures.value c.in-Err-read_response.ensures.err)),
)
