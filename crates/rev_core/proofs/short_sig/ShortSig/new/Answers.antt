use Rattle.rev_core.specs.{bytes_in}
use Rattle.rev_core.proofs.{numbers_of}
use Rattle.rev_core.proofs.short_sig.ShortSig.new.Goals as goal

pub returns-clause-bytes : goal.returns-clause-bytes
unfolding bytes_in
returns-clause-bytes c = numbers_of c.args.bytes.now c.from_le_bytes.result c.from_le_bytes-2.result c.told-bytes c.fits-bytes c.from_le_bytes.ensures c.from_le_bytes-2.ensures
