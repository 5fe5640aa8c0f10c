use Rattle.proof_prelude.proofs.{◌≡◌, length}
use Rattle.couch_base.specs.{Id}
use Rattle.repl_network.specs.{peers_of, FitsIn, IsRootedAt, KeepsAgreement, StaysMadeExcept}
use Rattle.repl_network.proofs.{in_net}
use Rattle.repl_network.proofs.net.Net.load.Goals as goal

pub returns-clause-made : goal.returns-clause-made
returns-clause-made g c =
    let size : length c.load_at.new.peers ≡ c.self.inside.peers.len = search in
    let was : c.deref_mut.result.now ≡ c.self.inside.peers.items = search in
    in_net was c.self.view_is size (λ ps qs. StaysMadeExcept c.args.doc.now.id (peers_of ps) (peers_of qs)) c.load_at.ensures.made

pub returns-clause-agree : goal.returns-clause-agree
returns-clause-agree g c =
    let size : length c.load_at.new.peers ≡ c.self.inside.peers.len = search in
    let was : c.deref_mut.result.now ≡ c.self.inside.peers.items = search in
    in_net was c.self.view_is size (λ ps qs. FitsIn (peers_of ps) c.args.doc.now → IsRootedAt (peers_of ps) c.args.place c.args.doc.now → (id : Id) → KeepsAgreement (peers_of ps) (peers_of qs) id) c.load_at.ensures.agree
