use Rattle.proof_prelude.proofs.{◌≡◌, ◌≤◌, take}
use Rattle.rev_tree.specs.{count_new, revs_in}
use Rattle.rev_tree.proofs.nodes.count_new.Given as goal

abbrev pub invariant-loop-rev : goal.invariant-loop-rev
invariant-loop-rev l = record {
  counted : l.count ≡ count_new (revs_in l.nodes) (take l.rev-index l.revs);
  few : l.count ≤ l.rev-index;
}
