use Rattle.proof_prelude.proofs.{dedup_is, eqb}
use Rattle.diagrams.proofs.{marked_from}
use Rattle.diagrams.proofs.axis.marked_of.Goals as goal

pub returns : goal.returns
returns c =
    marked_from c.args.leaves.now c.args.rows.now c.in_ok-marked.marked.items c.sort.new.self.items c.dedup.new.self.items
    c.in_ok-marked.ensures c.in_ok-sort.ensures.permutation c.in_ok-sort.ensures.sorted (dedup_is eqb _ _ c.dedup.ensures.filtered)
