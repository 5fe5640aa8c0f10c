use Rattle.proof_prelude.proofs.{◌≡◌, [], length, OnOk, sym, subst, on_ok_weaker}
use Rattle.repl_network.specs.{peers_of, filters_of, IsNet, HubSpread, StaysMade, TakesHub}
use Rattle.repl_network.proofs.{in_net}
use Rattle.repl_network.proofs.net.Net.sync_by_hub.Goals as goal

pub invariant_of-self : goal.invariant_of-self
invariant_of-self g c =
    let size : length c.sync_by_hub.new.peers ≡ c.self.inside.peers.len = search in
    let was : c.deref_mut.result.now ≡ c.self.inside.peers.items = search in
    in_net was c.self.view_is size (λ _ qs. IsNet [] (peers_of qs)) (c.sync_by_hub.ensures.net [] (subst (λ ps. IsNet [] (peers_of ps)) (sym was) c.self.invariant))

pub returns : goal.returns
returns g c =
    let size : length c.sync_by_hub.new.peers ≡ c.self.inside.peers.len = search in
    let was : c.deref_mut.result.now ≡ c.self.inside.peers.items = search in
    let r = c.sync_by_hub.result in
    let e = c.sync_by_hub.ensures in
    let net = subst (λ ps. IsNet [] (peers_of ps)) (sym was) c.self.invariant in
    record {
      taken = in_net was c.self.view_is size (λ ps qs. TakesHub g.F.WriteFilter.refuses ps c.args.there.now c.args.back.now r qs) e.taken;
      filters = in_net was c.self.view_is size (λ ps qs. filters_of qs ≡ filters_of ps) e.filters;
      made = in_net was c.self.view_is size (λ ps qs. StaysMade (peers_of ps) (peers_of qs)) e.made;
      same = in_net was c.self.view_is size (λ ps qs. OnOk r (HubSpread (peers_of ps) c.args.there.now c.args.back.now (peers_of qs))) (on_ok_weaker r (λ all. all net.consistent) e.same);
    }
