use Rattle.proof_prelude.proofs.{map, ◌≡◌, ◌+◌, ◌≤◌, ◌++◌, drop, length, option_map, vec_len, vec_capacity}
use Rattle.serde_json.specs.View.{items_of}
use Rattle.rev_core.specs.{numbered}
use Rattle.doc_json.specs.{sigs_of}
use Rattle.doc_json.proofs.revisions.numbered.Given as goal

-- the rest of the list gives the result for all of it
abbrev pub invariant-loop-item : goal.invariant-loop-item
invariant-loop-item g l = record {
  revs : option_map (λ rest. l.revs.items ++ numbered l.generation rest) (sigs_of (items_of (map g.V.JsonValue.seen (drop l.item-index l.ids)))) ≡ option_map (numbered l.start) (sigs_of (items_of (map g.V.JsonValue.seen l.ids)));
  count : l.generation + l.item-index ≡ l.start;
  within : length l.ids ≤ l.start;
  room : vec_len l.revs + length (drop l.item-index l.ids) ≤ vec_capacity l.revs;
}
