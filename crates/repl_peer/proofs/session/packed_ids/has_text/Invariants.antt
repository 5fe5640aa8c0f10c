use Rattle.proof_prelude.proofs.{◌≡◌, length, drop, list_any, bytes_eq}
use Rattle.couch_base.specs.{Id}
use Rattle.repl_peer.specs.{AreEnds, ids_from}
use Rattle.repl_peer.proofs.session.packed_ids.has_text.Given as goal

-- the remaining ids decide
abbrev pub invariant-loop-end : goal.invariant-loop-end
invariant-loop-end l = record {
  ends : AreEnds l.start (drop l.end-index l.ends) (length l.text);
  rest : list_any (λ (own : Id). bytes_eq own l.id) (ids_from l.start (drop l.end-index l.ends) l.text) ≡ list_any (λ (own : Id). bytes_eq own l.id) (ids_from 0 l.ends l.text);
}
