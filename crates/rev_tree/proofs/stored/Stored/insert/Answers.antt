use Rattle.proof_prelude.proofs.{◌≡◌, ◌+◌, ◌-◌, length, slice_get, ap, ◌∙◌, subst, arith}
use Rattle.rev_tree.specs.{IsOfNodes, revs_in}
use Rattle.rev_tree.proofs.{kept_longer, length-revs_in}
use Rattle.rev_tree.proofs.stored.Stored.insert.Goals as goal

pub overflow_sub-count : goal.overflow_sub-count
overflow_sub-count c =
    omega (
      arith,
      kept_longer _ _ c.in_ok-insert_nodes.ensures.kept,
      ap length c.all-known.ensures.items,
      ap length c.in_ok-list_node.ensures.items,
      ap length c.in_ok-reserve_origins.ensures.items,
      ap length c.all.ensures.items,
      length-revs_in c.reserve_origins.new.self.items,
      length-revs_in c.insert_nodes.new.self.items,
    )

pub returns-clause-kept : goal.returns-clause-kept
returns-clause-kept c i r h =
    ap (λ l. slice_get (revs_in l) i) c.extend_origins.ensures.items
    ∙ c.in_ok-insert_nodes.ensures.kept i r (ap (λ l. slice_get (revs_in l) i) (c.in_ok-reserve_origins.ensures.items ∙ c.in_ok-list_node.ensures.items) ∙ h)

pub returns-clause-nodes : goal.returns-clause-nodes
returns-clause-nodes c =
    let all : length c.all-known.result.now + (length c.all.result.now - length c.all-known.result.now) ≡ length c.extend_origins.new.self.items
    = omega (
      arith,
      kept_longer _ _ c.in_ok-insert_nodes.ensures.kept,
      ap length c.all-known.ensures.items,
      ap length c.in_ok-list_node.ensures.items,
      ap length c.in_ok-reserve_origins.ensures.items,
      ap length c.all.ensures.items,
      ap length c.extend_origins.ensures.items,
      length-revs_in c.reserve_origins.new.self.items,
      length-revs_in c.insert_nodes.new.self.items,
    ) in
    subst (IsOfNodes c.extend_origins.new.self.origins) all c.extend_origins.ensures.nodes
