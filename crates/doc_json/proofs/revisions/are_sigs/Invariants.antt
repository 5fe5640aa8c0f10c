use Rattle.proof_prelude.proofs.{map, ◌≡◌, drop, is_some}
use Rattle.serde_json.specs.View.{items_of}
use Rattle.doc_json.specs.{sigs_of}
use Rattle.doc_json.proofs.revisions.are_sigs.Given as goal

-- each item so far is a signature
abbrev pub invariant-loop-item : goal.invariant-loop-item
invariant-loop-item g l = is_some (sigs_of (items_of (map g.V.JsonValue.seen (drop l.item-index l.items)))) ≡ is_some (sigs_of (items_of (map g.V.JsonValue.seen l.items)))
