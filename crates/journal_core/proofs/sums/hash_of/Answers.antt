use Rattle.journal_core.proofs.{hash_is}
use Rattle.journal_core.proofs.sums.hash_of.Goals as goal

pub returns : goal.returns
returns c = hash_is c.args.chain.now c.args.seq.now c.args.body.now c.hex_of.result c.update.new.self c.hex_of.ensures (c.update.ensures _ c.hasher_of-hasher.ensures)
