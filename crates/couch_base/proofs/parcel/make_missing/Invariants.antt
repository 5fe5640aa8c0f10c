use Rattle.proof_prelude.proofs.{◌≤◌, length}
use Rattle.couch_base.specs.{AreMade}
use Rattle.couch_base.proofs.parcel.make_missing.Given as goal

abbrev pub invariant-loop-i : goal.invariant-loop-i
invariant-loop-i l = record {
  made : AreMade l.docs l.made.items;
  long : length l.docs ≤ length l.made.items;
}
