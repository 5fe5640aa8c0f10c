use Rattle.proof_prelude.proofs.{◌≡◌, take}
use Rattle.couch_base.proofs.copies.copied.Given as goal

-- the elements so far
abbrev pub invariant-loop-item : goal.invariant-loop-item
invariant-loop-item g l = l.copies.items ≡ take l.item-index l.items
