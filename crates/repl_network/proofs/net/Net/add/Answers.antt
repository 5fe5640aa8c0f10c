use Rattle.proof_prelude.proofs.{◌≡◌, [], ◌∷◌, ◌++◌, sym, ap, ◌∙◌, subst}
use Rattle.repl_peer.specs.{new_peer}
use Rattle.repl_network.specs.{peers_of, IsHeld, IsNet, StaysMade}
use Rattle.repl_network.proofs.{added_made, added_net}
use Rattle.repl_network.proofs.net.Net.add.Goals as goal

pub invariant_of-self-2 : goal.invariant_of-self-2
invariant_of-self-2 g c =
    let items = c.self.inside.peers.items in
    let was : c.deref.result.now ≡ items = search in
    let fresh = subst (λ ps. IsHeld (peers_of ps) c.args.uuid → ⊥) was c.in_default.ensures.none in
    subst (λ ps. IsNet [] (peers_of ps)) (sym c.in_ok-put_peer.ensures.ok) (added_net [] items c.args.filter c.args.uuid c.self.invariant fresh)

pub returns-clause-made : goal.returns-clause-made
returns-clause-made g c =
    subst (λ ps. StaysMade (peers_of c.args.self.now) (peers_of ps)) (sym (c.in_ok-put_peer.ensures.ok ∙ ap (λ ps. ps ++ (c.args.filter, new_peer c.args.uuid) ∷ []) c.self.view_is)) (added_made c.args.self.now c.args.filter c.args.uuid)
