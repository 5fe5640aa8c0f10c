use Rattle.proof_prelude.proofs.{◌≡◌, ℕ, ◌+◌, List, [], length, flat_map, ap, ◌∙◌, sym, refl, subst, arith}
use Rattle.couch_base.specs.{RowValue}
use Rattle.repl_peer.specs.{AreEnds, ids_from}
use Rattle.repl_peer.proofs.{stored_ends, stored_ids}
use Rattle.repl_peer.proofs.session.packed_ids.PackedIds.of.Goals as goal

pub invariant_of-result : goal.invariant_of-result
invariant_of-result c =
    let text = c.in_ok-text.text.items in
    let len : length text ≡ 0 + length (flat_map (λ (row : RowValue). row.id) c.args.rows.now) = (let e = ap length c.in_ok-text.ensures.text in omega arith) in
    subst (λ (ends : List ℕ). AreEnds 0 ends (length text)) (sym c.in_ok-ends.ensures.ends) (stored_ends 0 c.args.rows.now (length text) len)

pub returns : goal.returns
returns c = record {
  of = ap (λ (ends : List ℕ). ids_from 0 ends c.in_ok-text.text.items) c.in_ok-ends.ensures.ends
      ∙ ap (ids_from 0 _) c.in_ok-text.ensures.text ∙ stored_ids 0 [] c.args.rows.now refl;
}
