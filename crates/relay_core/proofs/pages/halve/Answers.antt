use Rattle.relay_core.proofs.pages.halve.Goals as goal

pub returns : goal.returns
returns c = λ h o. c.ask_carry.ensures h o
