use Rattle.proof_prelude.proofs.{◌≡◌, ◌≤◌, List, length}
use Rattle.doc_json.specs.Document.{Document}
use Rattle.couch_base.specs.{AreMade}
use Rattle.couch_base.proofs.parcel.pad.Given as goal

abbrev pub invariant-loop-i : goal.invariant-loop-i
invariant-loop-i l = record {
  made : (docs : List Document) → AreMade docs l.initial.made.items → AreMade docs l.made.items;
  long : l.i ≤ length l.made.items;
}
