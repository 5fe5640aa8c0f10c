use Rattle.relay_core.proofs.pages.refuse.Goals as goal

pub returns : goal.returns
returns c = λ h. c.failed.ensures.known h
