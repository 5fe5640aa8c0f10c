use Rattle.json.proofs.Numbered.{HasNumbers-get}
use Rattle.relay_responses.proofs.logs.history_of.Goals as goal

pub history_in-requires : goal.history_in-requires
history_in-requires c = HasNumbers-get _ _ _ c.requires c.in-Some.ensures
