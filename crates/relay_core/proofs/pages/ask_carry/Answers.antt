use Rattle.relay_core.proofs.Knowing.{knows_by}
use Rattle.relay_core.proofs.pages.ask_carry.Goals as goal

pub returns-then-transfer-count : goal.returns-then-transfer-count
returns-then-transfer-count c = λ h o. knows_by h c.quiet.result _ _ c.quiet.ensures.run c.quiet.ensures.stage o

pub returns : goal.returns
returns c = λ h o. knows_by h c.quiet-2.result _ _ c.quiet-2.ensures.run c.quiet-2.ensures.stage o
