use Rattle.proof_prelude.proofs.{◌≡◌, length}
use Rattle.couch_base.specs.{Id}
use Rattle.repl_network.specs.{peers_of, EditFits, KeepsAgreement, StaysMadeByEdit}
use Rattle.repl_network.proofs.{in_net}
use Rattle.repl_network.proofs.net.Net.edit.Goals as goal

pub returns-clause-made : goal.returns-clause-made
returns-clause-made g c =
    let size : length c.edit_at.new.peers ≡ c.self.inside.peers.len = search in
    let was : c.deref_mut.result.now ≡ c.self.inside.peers.items = search in
    let a = c.args in
    in_net was c.self.view_is size (λ ps qs. StaysMadeByEdit a.place a.id.now a.parent a.deleted a.body.now (peers_of ps) (peers_of qs)) c.edit_at.ensures.made

pub returns-clause-agree : goal.returns-clause-agree
returns-clause-agree g c =
    let size : length c.edit_at.new.peers ≡ c.self.inside.peers.len = search in
    let was : c.deref_mut.result.now ≡ c.self.inside.peers.items = search in
    let a = c.args in
    in_net was c.self.view_is size (λ ps qs. EditFits (peers_of ps) a.place a.id.now a.parent a.deleted a.body.now → (at : Id) → KeepsAgreement (peers_of ps) (peers_of qs) at) c.edit_at.ensures.agree
