use Rattle.relay_core.proofs.logs.after_source_put.Goals as goal

pub returns-in_ok-run-in-Stored : goal.returns-in_ok-run-in-Stored
returns-in_ok-run-in-Stored c = λ h r. c.behind.ensures h (c.in_ok-run-in-Stored.ensures h)

pub returns-in-Conflict : goal.returns-in-Conflict
returns-in-Conflict c = λ h r. c.after_conflict.ensures h r

pub returns-in_default : goal.returns-in_default
returns-in_default c = λ h r. c.failed.ensures.known h
