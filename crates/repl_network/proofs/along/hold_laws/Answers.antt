use Rattle.proof_prelude.proofs.{◌∷◌, [], ◌++◌, ◌∙◌, All, All-push, ap, subst, sym, take, take_all, take_more}
use Rattle.couch_base.specs.{LawfulDatabase}
use Rattle.repl_network.proofs.along.hold_laws.Goals as goal

pub loop-peer-preserved : goal.loop-peer-preserved
loop-peer-preserved g c =
    let next = take_more c.args.peers.now c.loop-peer.peer-index c.peer-item.result c.loop-peer-test.true ∙ ap (λ p. take c.loop-peer.peer-index c.args.peers.now ++ p ∷ []) (sym c.peer-item.is) in
    subst (All (λ p. LawfulDatabase p.1.db)) (sym next) (All-push (λ p. LawfulDatabase p.1.db) _ c.peer-item.result c.loop-peer.invariant c.law.ensures.database)

pub returns : goal.returns
returns g c = subst (All (λ p. LawfulDatabase p.1.db)) (take_all c.loop-peer.peer-index c.args.peers.now c.loop-peer-test.false) c.loop-peer.invariant
