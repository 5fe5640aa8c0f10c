use Rattle.proof_prelude.proofs.{◌≡◌, length, take}
use Rattle.rev_core.specs.{digits_of}
use Rattle.rev_core.proofs.short_sig.digits_of.Given as goal

-- the digits so far
abbrev pub invariant-loop-i : goal.invariant-loop-i
invariant-loop-i l = (length l.text ≡ 32) × (take l.i l.text ≡ take l.i (digits_of l.bytes))
