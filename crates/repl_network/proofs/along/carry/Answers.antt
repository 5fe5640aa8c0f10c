use Rattle.proof_prelude.proofs.{◌<◌, get_or, sym, arith}
use Rattle.repl_network.specs.{peers_of}
use Rattle.repl_network.proofs.{hop_made, hop_net, hop_tied, ended_of, hop_of, hopped_of, split_changed, swapped, two_filters}
use Rattle.repl_network.proofs.along.carry.Goals as goal

pub returns-then-hop : goal.returns-then-hop
returns-then-hop g c =
    let peers = c.args.peers.now in
    let hop = c.args.hop.now in
    let p = c.split_at_mut-front in
    let new = c.replicate_two.new in
    let e = c.replicate_two.ensures in
    let s = get_or p.result.0.now hop.from c.index-front-hop.result in
    let t = get_or p.result.1.now 0 c.index-back-0.result in
    let changed = split_changed peers p.result.0.now p.result.1.now hop.from hop.to c.index-front-hop.result c.index-back-0.result new.source new.target p.ensures.value p.ensures.front_len c.if-hop.true c.requires.to in
    let hopped = hopped_of peers _ hop s t new.source new.target c.requires.two changed _ e.carried in
    record {
      hop = hop_of peers _ hop s t new.source new.target c.requires.two changed g.F.WriteFilter.refuses c.replicate_two.result e.filters.0 e.filters.1 e.replicates;
      filters = two_filters peers p.result.0.now p.result.1.now hop.from hop.to c.index-front-hop.result c.index-back-0.result new.source new.target p.ensures.value p.ensures.front_len c.if-hop.true c.requires.to e.filters.0 e.filters.1;
      tied = hop_tied (peers_of peers) hop _ hopped;
      net = hop_net (peers_of peers) hop _ hopped;
      made = λ among id. hop_made among (peers_of peers) hop _ hopped id;
      ended = ended_of peers _ hop s t new.source new.target c.requires.two changed _ e.carried c.replicate_two.result e.whole;
    }

pub returns-else-hop : goal.returns-else-hop
returns-else-hop g c =
    let peers = c.args.peers.now in
    let hop = c.args.hop.now in
    let p = c.split_at_mut-front-else-hop in
    let new = c.replicate_two-else-hop.new in
    let e = c.replicate_two-else-hop.ensures in
    let low : hop.to < hop.from = omega (arith, c.if-hop.false, c.requires.two) in
    let s = get_or p.result.1.now 0 c.index-back-0-else-hop.result in
    let t = get_or p.result.0.now hop.to c.index-front-hop-else-hop.result in
    let changed = swapped (split_changed peers p.result.0.now p.result.1.now hop.to hop.from c.index-front-hop-else-hop.result c.index-back-0-else-hop.result new.target new.source p.ensures.value p.ensures.front_len low c.requires.from) in
    let hopped = hopped_of peers _ hop s t new.source new.target c.requires.two changed _ e.carried in
    record {
      hop = hop_of peers _ hop s t new.source new.target c.requires.two changed g.F.WriteFilter.refuses c.replicate_two-else-hop.result e.filters.0 e.filters.1 e.replicates;
      filters = two_filters peers p.result.0.now p.result.1.now hop.to hop.from c.index-front-hop-else-hop.result c.index-back-0-else-hop.result new.target new.source p.ensures.value p.ensures.front_len low c.requires.from e.filters.1 e.filters.0;
      tied = hop_tied (peers_of peers) hop _ hopped;
      net = hop_net (peers_of peers) hop _ hopped;
      made = λ among id. hop_made among (peers_of peers) hop _ hopped id;
      ended = ended_of peers _ hop s t new.source new.target c.requires.two changed _ e.carried c.replicate_two-else-hop.result e.whole;
    }
