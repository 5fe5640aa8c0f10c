use Rattle.relay_responses.proofs.Numbers.{HasNumbers-item}
use Rattle.relay_responses.proofs.logs.entries_of.Goals as goal

pub entry_of-requires : goal.entry_of-requires
entry_of-requires c = HasNumbers-item c.args.items.now c.loop-item.item-index c.item-item.result c.requires c.loop-item-test.true c.item-item.is
