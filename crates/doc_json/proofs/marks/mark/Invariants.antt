use Rattle.proof_prelude.proofs.{◌≡◌, length, take}
use Rattle.doc_json.specs.{AreMarks}
use Rattle.doc_json.proofs.marks.mark.Given as goal

-- the entries of the ids so far are true
abbrev pub invariant-loop-id : goal.invariant-loop-id
invariant-loop-id l = record {
  size : length l.marks.items ≡ l.places;
  marks : AreMarks l.marks.items (take l.id-index l.ids);
}
