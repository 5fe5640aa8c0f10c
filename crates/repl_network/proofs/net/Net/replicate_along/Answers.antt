use Rattle.proof_prelude.proofs.{◌≡◌, [], length, OnOk, sym, subst, on_ok_weaker}
use Rattle.repl_network.specs.{peers_of, filters_of, IsNet, Spread, StaysMade, TakesHops}
use Rattle.repl_network.proofs.{in_net}
use Rattle.repl_network.proofs.net.Net.replicate_along.Goals as goal

pub invariant_of-self : goal.invariant_of-self
invariant_of-self g c =
    let size : length c.replicate_along.new.peers ≡ c.self.inside.peers.len = search in
    let was : c.deref_mut.result.now ≡ c.self.inside.peers.items = search in
    in_net was c.self.view_is size (λ _ qs. IsNet [] (peers_of qs)) (c.replicate_along.ensures.net [] (subst (λ ps. IsNet [] (peers_of ps)) (sym was) c.self.invariant))

pub returns : goal.returns
returns g c =
    let size : length c.replicate_along.new.peers ≡ c.self.inside.peers.len = search in
    let was : c.deref_mut.result.now ≡ c.self.inside.peers.items = search in
    let r = c.replicate_along.result in
    let e = c.replicate_along.ensures in
    let net = subst (λ ps. IsNet [] (peers_of ps)) (sym was) c.self.invariant in
    record {
      taken = in_net was c.self.view_is size (λ ps qs. TakesHops g.F.WriteFilter.refuses 0 ps c.args.hops.now r qs) e.taken;
      filters = in_net was c.self.view_is size (λ ps qs. filters_of qs ≡ filters_of ps) e.filters;
      made = in_net was c.self.view_is size (λ ps qs. StaysMade (peers_of ps) (peers_of qs)) e.made;
      spread = in_net was c.self.view_is size (λ ps qs. OnOk r (Spread (peers_of ps) c.args.hops.now (peers_of qs))) (on_ok_weaker r (λ all. all net.consistent) e.spread);
    }
