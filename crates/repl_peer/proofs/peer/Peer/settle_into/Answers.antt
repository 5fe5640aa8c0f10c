use Rattle.proof_prelude.proofs.{subst}
use Rattle.repl_peer.specs.{PeerValue, SettleGives}
use Rattle.repl_peer.proofs.{settle_stored}
use Rattle.repl_peer.proofs.peer.Peer.settle_into.Goals as goal

pub invariant_of-self : goal.invariant_of-self
invariant_of-self g c =
    let p : PeerValue = record { db = c.self.inside.db; locals = c.self.inside.locals; sessions = c.self.inside.sessions; outgoing = c.self.inside.outgoing } in
    settle_stored (g.F.WriteFilter.refuses c.self.inside.filter) p c.args.id c.self.invariant c.args.parcel c.settle_session.result _ (c.settle_session.ensures p)

pub returns-clause-settles : goal.returns-clause-settles
returns-clause-settles g c =
    let p : PeerValue = record { db = c.self.inside.db; locals = c.self.inside.locals; sessions = c.self.inside.sessions; outgoing = c.self.inside.outgoing } in
    let q : PeerValue = record { db = c.settle_session.new.db; locals = c.self.inside.locals; sessions = c.settle_session.new.self; outgoing = c.self.inside.outgoing } in
    subst (λ v. SettleGives (g.F.WriteFilter.refuses v.0) v.1 c.args.id c.args.parcel c.settle_session.result q) c.self.view_is (c.settle_session.ensures p)

pub returns-clause-law : goal.returns-clause-law
returns-clause-law g c = (invariant_of-self g c).lawful
