use Rattle.proof_prelude.proofs.{sym, ap, ◌∙◌, option_copied}
use Rattle.rev_tree.proofs.{place_known, place_unknown}
use Rattle.rev_tree.proofs.stored.Stored.node_in.Goals as goal

pub node_at-requires : goal.node_at-requires
node_at-requires c = (place_known c.args.self.now.items c.args.rev.now c.in_ok-place.place (sym c.place_in.ensures.place ∙ c.in_ok-place.was)).within

pub returns-clause-node : goal.returns-clause-node
returns-clause-node c =
    let f = place_known c.args.self.now.items c.args.rev.now c.in_ok-place.place (sym c.place_in.ensures.place ∙ c.in_ok-place.was) in
    sym c.node_at.ensures.node ∙ f.at ∙ sym f.found

pub returns-in_err-place-clause-node : goal.returns-in_err-place-clause-node
returns-in_err-place-clause-node c = ap option_copied c.from_residual.ensures ∙ sym (place_unknown c.args.self.now.items c.args.rev.now (sym c.place_in.ensures.place ∙ c.in_err-place.was))
