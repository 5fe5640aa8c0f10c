-- Lemma: a signature's string determines the array and the length that store the signature.
use Rattle.std.specs.Prelude.{◌≡◌, take, length}
use Rattle.std.proofs.Common.{arith, sym}
use Rattle.std.proofs.lemmas.List.{length-take-le}
use Rattle.rev_core.specs.declared.sig.Sig.TheInside.{Inside}
use Rattle.rev_core.specs.Sig.{IsStored, padded}

pub padded_back : (s : Inside) → IsStored s.bytes s.len
    → record { bytes = padded (take s.len s.bytes); len = length (take s.len s.bytes) } ≡ s
padded_back s h =
    let n : length (take s.len s.bytes) ≡ s.len = length-take-le s.len s.bytes (omega (arith, h.size, h.fits)) in
    let z = sym h.zeros in
    λ i. record { bytes = z i; len = n i }
