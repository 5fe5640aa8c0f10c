-- The bytes before the position are copied.
use Rattle.proof_prelude.proofs.{◌≤◌, ◌-◌, length}
use Rattle.response_parser.specs.Runs.{Continues}
use Rattle.response_parser.proofs.copies.spot_after.Given as goal

abbrev pub invariant-loop-spot : goal.invariant-loop-spot
invariant-loop-spot l = record {
  within : l.spot.count ≤ length l.bytes;
  continues : Continues l.bytes 0 l.quoted l.nesting l.spot.count l.spot.quoted l.spot.nesting;
}

abbrev pub decreases-loop-spot : goal.decreases-loop-spot
decreases-loop-spot l = length l.bytes - l.spot.count
