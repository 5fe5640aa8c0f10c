use Rattle.relay_requests.proofs.Lists.{list_any-map}
use Rattle.relay_requests.proofs.logs.is_recorded.Goals as goal

pub returns : goal.returns
returns c = rw list_any-map c.has_entry.ensures
