use Rattle.proof_prelude.proofs.{◌≡◌, ◌≤◌, length, take, drop, ap, ◌∙◌, arith, rules, length-drop, take_all}
use borrow.Rule.Slice.PartMut.{mid_of}
use Rattle.rev_core.specs.{padded}
use Rattle.rev_core.proofs.sig.Sig.tail.Goals as goal

pub returns : goal.returns
returns c =
    let bytes = c.self.inside.bytes in
    let part : mid_of 32 32 bytes ≡ take 32 (drop 32 bytes) = search rules in
    part ∙ take_all 32 (drop 32 bytes) (omega (arith, length-drop 32 bytes, c.self.invariant.size))
    ∙ ap (drop 32) (c.self.invariant.zeros ∙ ap padded c.self.view_is)
