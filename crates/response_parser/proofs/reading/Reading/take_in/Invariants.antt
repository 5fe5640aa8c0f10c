-- The bytes so far were read, and completed nothing.
use Rattle.proof_prelude.proofs.{◌≡◌, ◌≤◌, ◌-◌, ◌⊎◌, [], take, length}
use Rattle.response_parser.specs.{state_of, after, given, pieces}
use Rattle.response_parser.proofs.reading.Reading.take_in.Given as goal

abbrev pub invariant-loop-i : goal.invariant-loop-i
invariant-loop-i l = record {
  within : l.i ≤ length l.bytes;
  state : state_of l.self ≡ after (state_of l.fn.self) (take l.i l.bytes);
  pieces : pieces (state_of l.fn.self) (take l.i l.bytes) ≡ [];
  going : (l.i ≡ 0) ⊎ (given (state_of l.self) ≡ []);
}

abbrev pub decreases-loop-i : goal.decreases-loop-i
decreases-loop-i l = length l.bytes - l.i
