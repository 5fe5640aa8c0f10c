-- A member that is open in the remaining text is open in the whole text.
use Rattle.proof_prelude.proofs.{List, ℕ, drop, length}
use Rattle.doc_envelope.specs.{Opens}
use Rattle.doc_envelope.proofs.puts.open_member.Given as goal

abbrev pub invariant-loop-member : goal.invariant-loop-member
invariant-loop-member l = (u : List ℕ) → Opens l.rest u → Opens (drop 1 l.beginning) u

abbrev pub decreases-loop-member : goal.decreases-loop-member
decreases-loop-member l = length l.rest
