use Rattle.proof_prelude.proofs.{refl}
use Rattle.rev_core.specs.{bytes_in}
use Rattle.rev_core.proofs.short_sig.ShortSig.bytes.Goals as goal

pub returns : goal.returns
unfolding bytes_in
returns c = rw (c.to_le_bytes-front.ensures, c.to_le_bytes-back.ensures) refl
