use Rattle.couch_relay.proofs.inbox.status_of.Goals as goal

pub returns-in-Ok : goal.returns-in-Ok
returns-in-Ok c = (c.in-Ok.ensures.value.0.0.0, c.in-Ok.ensures.value.0.0.1, c.in-Ok.ensures.value.0.1)

pub returns-in-Err : goal.returns-in-Err
returns-in-Err c = λ n h. c.in-Err.ensures.value.0 (h.0, h.1)
