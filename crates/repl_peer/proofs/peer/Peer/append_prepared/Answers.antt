use Rattle.proof_prelude.proofs.{◌<◌, ◌^◌, ◌∙◌, ap, subst}
use Rattle.couch_base.specs.{IsWindow, WindowValue}
use Rattle.repl_peer.proofs.{Lawful-appended}
use Rattle.repl_peer.proofs.peer.Peer.append_prepared.Goals as goal

pub invariant_of-self : goal.invariant_of-self
invariant_of-self g c =
    let same = c.window.ensures in
    let fits : c.args.ready.hi < 2 ^ 64 = subst (λ n. n < 2 ^ 64) (c.hi-hi.ensures.value ∙ ap (λ (w : WindowValue). w.hi) same) c.hi-hi.type_inv in
    record { lawful = Lawful-appended _ _ c.self.invariant.lawful c.args.id c.args.ready (subst IsWindow same c.hi-hi.ensures.window) fits c.append.result _ c.append.ensures.ok c.append.ensures.err; counted = c.self.invariant.counted }

pub returns-clause-law : goal.returns-clause-law
returns-clause-law g c = (invariant_of-self g c).lawful
