use Rattle.proof_prelude.proofs.{string_bytes, sym, ◌∙◌}
use Rattle.relay_core.proofs.Reaching.{begins}
use Rattle.relay_core.proofs.logs.anew.Goals as goal

pub returns-then-run : goal.returns-then-run
returns-then-run c = λ h f.
    c.put_target.ensures h (begins h _ _ _ (c.in_ok-run.ensures.begin ∙ sym c.in_ok-run.ensures.since))
    (f (string_bytes c.in_ok-run.run'.since) c.in_ok-run.run'.counts.doc_write_failures (sym c.in_ok-run.ensures.since))

pub returns : goal.returns
returns c = λ h f. begins h _ _ _ (c.in_ok-run.ensures.begin ∙ sym c.in_ok-run.ensures.since)
