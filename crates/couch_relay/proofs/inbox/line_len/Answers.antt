use Rattle.couch_relay.proofs.Lines.{position_some, position_none}
use Rattle.couch_relay.proofs.inbox.line_len.Goals as goal

pub returns-in-Some : goal.returns-in-Some
returns-in-Some c = position_some c.args.bytes.now c.in-Some.index c.in-Some.ensures

pub returns-in-None : goal.returns-in-None
returns-in-None c = position_none c.args.bytes.now c.in-None.ensures
