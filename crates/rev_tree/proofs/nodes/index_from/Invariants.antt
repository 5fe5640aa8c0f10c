use Rattle.proof_prelude.proofs.{◌≡◌, ◌+◌, ◌≤◌, [], length, take}
use Rattle.rev_tree.specs.{noted_from, revs_in}
use Rattle.rev_tree.proofs.nodes.index_from.Given as goal

-- the hashes so far, space for the others, and the same tournament
abbrev pub invariant-loop-i : goal.invariant-loop-i
invariant-loop-i l = record {
  marks : l.places.entries ≡ noted_from [] 0 (revs_in (take l.i l.nodes));
  len : length l.places.entries ≤ l.i;
  room : length l.fn.places.entries + l.fn.places.spare ≤ length l.places.entries + l.places.spare;
  winners : l.places.winners ≡ l.fn.places.winners;
  entered : l.places.entered ≡ l.fn.places.entered;
}
