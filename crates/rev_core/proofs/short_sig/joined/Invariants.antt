use Rattle.rev_core.proofs.{IsRead}
use Rattle.rev_core.proofs.short_sig.joined.Given as goal

-- the digits so far
abbrev pub invariant-loop-i : goal.invariant-loop-i
invariant-loop-i l = IsRead l.text l.bytes l.all l.i
