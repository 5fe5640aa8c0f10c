use Rattle.proof_prelude.proofs.{◌≡◌, ◌∷◌, [], rules, sym, ◌∙◌, subst}
use Rattle.rev_tree.specs.{IsSingle}
use Rattle.rev_tree.proofs.{ancestors-single}
use Rattle.rev_tree.proofs.single_node.Single.walk.Goals as goal

pub returns : goal.returns
returns c =
    let made : c.push_reserved.new.self.items ≡ c.args.self.now.rev ∷ [] = search rules in
    made ∙ sym (ancestors-single c.args.self.now (subst IsSingle c.self.view_is c.self.invariant))
