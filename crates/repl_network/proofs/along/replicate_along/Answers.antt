use Rattle.proof_prelude.proofs.{Err, sym, ap, ◌∙◌, subst, err_from_is_err_and}
use Rattle.couch_base.specs.{LawfulDatabase}
use Rattle.repl_network.specs.{peers_of, TakesHops}
use Rattle.repl_network.proofs.{all_at, all_spread, hops_next, hops_all, takes_next, takes_refused, takes_all}
use Rattle.repl_network.proofs.along.replicate_along.Goals as goal

pub returns-clause-spread : goal.returns-clause-spread
returns-clause-spread g c =
    let old = peers_of c.args.peers.now in
    let now = peers_of c.loop-at.peers in
    all_spread c.args.hops.now old now (all_at (λ p. LawfulDatabase p.db) c.args.peers.now c.hold_laws.ensures) (hops_all old now c.args.hops.now c.loop-at.at c.loop-at-test.false c.loop-at.invariant.3)

pub returns-in_err-take_hop-clause-made : goal.returns-in_err-take_hop-clause-made
returns-in_err-take_hop-clause-made g c = λ among id h. c.in_err-take_hop.ensures.made among id (c.loop-at.invariant.2 among id h)

pub loop-at-preserved : goal.loop-at-preserved
loop-at-preserved g c =
    let i = c.loop-at.invariant in (
      λ h. c.in_ok-take_hop.ensures.tied (i.0 h),
      λ backups h. c.in_ok-take_hop.ensures.net backups (i.1 backups h),
      λ among id h. c.in_ok-take_hop.ensures.made among id (i.2 among id h),
      hops_next (peers_of c.args.peers.now) (peers_of c.loop-at.peers) (peers_of c.take_hop.new.peers) c.args.hops.now c.loop-at.at c.index-hops-at.result c.loop-at-test.true c.index-hops-at.is c.in_ok-take_hop.ensures.ended i.3,
      c.in_ok-take_hop.ensures.filters ∙ i.4,
      takes_next g.F.WriteFilter.refuses c.args.peers.now c.loop-at.peers c.take_hop.new.peers c.args.hops.now c.loop-at.at c.index-hops-at.result c.loop-at-test.true c.index-hops-at.is _ c.in_ok-take_hop.ensures.taken i.5,
    )

pub returns-clause-taken : goal.returns-clause-taken
returns-clause-taken g c = takes_all g.F.WriteFilter.refuses c.args.peers.now c.loop-at.peers c.args.hops.now c.loop-at.at c.loop-at-test.false c.loop-at.invariant.5

pub returns-in_err-take_hop-clause-taken : goal.returns-in_err-take_hop-clause-taken
returns-in_err-take_hop-clause-taken g c =
    let p = err_from_is_err_and c.from_residual.result c.from_residual.ensures.1 in
    subst (λ r. TakesHops g.F.WriteFilter.refuses 0 c.args.peers.now c.args.hops.now r c.take_hop.new.peers) (sym (p.1 ∙ ap Err p.2))
    (takes_refused g.F.WriteFilter.refuses c.args.peers.now c.loop-at.peers c.take_hop.new.peers c.args.hops.now c.loop-at.at c.index-hops-at.result c.loop-at-test.true c.index-hops-at.is _ c.in_err-take_hop.ensures.taken c.loop-at.invariant.5)

pub returns-in_err-take_hop-clause-filters : goal.returns-in_err-take_hop-clause-filters
returns-in_err-take_hop-clause-filters g c = c.in_err-take_hop.ensures.filters ∙ c.loop-at.invariant.4
