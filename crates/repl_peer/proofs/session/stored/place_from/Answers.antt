use Rattle.proof_prelude.proofs.{ltb, ltb-true, rules, IsPartitionPoint-from_clause, IsPartitionedBy-ltb, ltb-false}
use Rattle.repl_peer.specs.{StoredWindowValue}
use Rattle.repl_peer.proofs.{rises_stored, point_stored}
use Rattle.repl_peer.proofs.session.stored.place_from.Goals as goal

pub returns : goal.returns
returns c =
    let parted = IsPartitionedBy-ltb (λ (v : StoredWindowValue). v.window.lo) _ c.args.lo (λ i j d le h. rises_stored c.requires.0 c.args.windows.now i j d c.requires.1 le h) in
    let point = IsPartitionPoint-from_clause (λ (v : StoredWindowValue). ltb v.window.lo c.args.lo) _ _ c.partition_point.ensures.partitioned parted (λ a r q k. search rules) in
    point_stored c.args.windows.now c.args.lo _ c.partition_point.ensures.bound ((λ k d low h. ltb-true _ _ (point.0 k d low h)), (λ k d low h. ltb-false _ _ (point.1 k d low h)))
