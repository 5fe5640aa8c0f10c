use Rattle.proof_prelude.proofs.{◌≡◌, ◌+◌, length, ◌∙◌, subst, inr, arith, length-map, on_ok_weaker}
use Rattle.repl_network.specs.{peers_of, TakesHops}
use Rattle.repl_network.proofs.{hub_spread}
use Rattle.repl_network.proofs.hub.sync_by_hub.Goals as goal

pub returns-clause-same : goal.returns-clause-same
returns-clause-same g c =
    let old = c.args.peers.now in
    let there = c.args.there.now in
    let back = c.args.back.now in
    let mapped = length-map old (λ p. p.1) in
    let first : length (peers_of old) ≡ length there + 1 = omega (arith, mapped, c.if-peers-there.false) in
    let second : length (peers_of old) ≡ length back + 1 = omega (arith, mapped, c.if-peers-back.false) in
    on_ok_weaker c.replicate_along.result
    (λ spread. hub_spread (peers_of old) there back c.deref.result.now (peers_of c.replicate_along.new.peers) (c.deref.ensures.value ∙ c.in_ok-hops.ensures) first second spread)
    c.replicate_along.ensures.spread

pub returns-clause-taken : goal.returns-clause-taken
returns-clause-taken g c =
    let old = c.args.peers.now in
    let there = c.args.there.now in
    let back = c.args.back.now in
    let first : length old ≡ length there + 1 = omega (arith, c.if-peers-there.false) in
    let second : length old ≡ length back + 1 = omega (arith, c.if-peers-back.false) in
    inr (inr ((first, second), subst (λ hops. TakesHops g.F.WriteFilter.refuses 0 old hops c.replicate_along.result c.replicate_along.new.peers) (c.deref.ensures.value ∙ c.in_ok-hops.ensures) c.replicate_along.ensures.taken))
