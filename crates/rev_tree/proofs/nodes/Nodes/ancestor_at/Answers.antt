use Rattle.proof_prelude.proofs.{◌≡◌, ℕ, ◌+◌, ◌-◌, ◌<◌, ◌∷◌, [], None, Some, suc, zero, slice_get, sym, ap, ◌∙◌, refl, arith}
use Rattle.rev_core.specs.{RevId}
use Rattle.rev_tree.specs.{ancestors_at}
use Rattle.rev_tree.proofs.{step, last, first_there}
use Rattle.rev_tree.proofs.nodes.Nodes.ancestor_at.Goals as goal

pub loop-i-init : goal.loop-i-init
loop-i-init c = record {
  within = c.requires.within;
  left = λ k. let e : k ≡ 0 + k = omega arith in ap (slice_get (ancestors_at c.args.self.now.items c.args.start)) e;
}

pub loop-i-preserved : goal.loop-i-preserved
loop-i-preserved c =
    let nodes = c.args.self.now.items in
    let s = step nodes c.node_at.ensures.linked c.loop-i.at c.node_at.result.now c.node_at.ensures.node c.requires.tree c.in_ok-at.at (sym c.parent.ensures ∙ c.in_ok-at.was) in
    record {
      within = s.within;
      left = λ k.
          let e : c.loop-i.i + suc k ≡ c.loop-i.i + 1 + k = omega arith in
          ap (λ l. slice_get l (suc k)) (sym s.walk) ∙ c.loop-i.invariant.left (suc k) ∙ ap (slice_get (ancestors_at nodes c.args.start)) e;
    }

-- a single revision has no ancestor
alone : (r : RevId) (n : ℕ) → 0 < n → slice_get (r ∷ []) n ≡ None
alone r zero h = absurd (omega arith)
alone r (suc n) h = refl

pub returns-in_err-at : goal.returns-in_err-at
returns-in_err-at c =
    let nodes = c.args.self.now.items in
    let n = c.node_at.result.now in
    let left : 0 < c.args.steps - c.loop-i.i = omega arith in
    let e : c.loop-i.i + (c.args.steps - c.loop-i.i) ≡ c.args.steps = omega arith in
    let end = last nodes c.node_at.ensures.linked c.loop-i.at n c.node_at.ensures.node (sym c.parent.ensures ∙ c.in_err-at.was) in
    c.from_residual.ensures
    ∙ sym (ap (slice_get (ancestors_at nodes c.args.start)) (sym e) ∙ sym (c.loop-i.invariant.left (c.args.steps - c.loop-i.i)) ∙ ap (λ l. slice_get l (c.args.steps - c.loop-i.i)) end ∙ alone n.rev (c.args.steps - c.loop-i.i) left)

pub returns : goal.returns
returns c =
    let nodes = c.args.self.now.items in
    let e : c.loop-i.i + 0 ≡ c.args.steps = omega arith in
    sym (ap (slice_get (ancestors_at nodes c.args.start)) (sym e) ∙ sym (c.loop-i.invariant.left 0)
    ∙ first_there nodes c.node_at-2.ensures.linked c.loop-i.at c.node_at-2.result.now c.node_at-2.ensures.node ∙ ap Some (sym c.to_rev.ensures))
