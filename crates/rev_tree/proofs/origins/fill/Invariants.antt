use Rattle.proof_prelude.proofs.{◌≡◌, ◌+◌, ◌++◌, length, map, replicate, vec_capacity}
use Rattle.rev_tree.specs.{small_origin}
use Rattle.rev_tree.proofs.origins.fill.Given as goal

-- the origins so far
abbrev pub invariant-loop-i : goal.invariant-loop-i
invariant-loop-i l = record {
  items : map small_origin l.origins.items ≡ map small_origin l.fn.origins.items ++ replicate l.i l.fn.origin;
  len : length l.origins.items ≡ length l.fn.origins.items + l.i;
  capacity : vec_capacity l.origins ≡ vec_capacity l.fn.origins;
  small : small_origin l.small ≡ l.fn.origin;
}
