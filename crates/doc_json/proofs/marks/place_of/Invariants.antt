use Rattle.proof_prelude.proofs.{◌≡◌, ◌-◌, ◌<◌, drop, length}
use Rattle.doc_json.specs.{place_from}
use Rattle.doc_json.proofs.marks.place_of.Given as goal

-- the rest of the bytes leads to the final index
abbrev pub invariant-loop-byte : goal.invariant-loop-byte
invariant-loop-byte l = record {
  within : l.place < 8192;
  rest : place_from l.place (drop l.byte-index l.byte-items) ≡ place_from 0 (drop (length l.id - 8) l.id);
}
