use Rattle.proof_prelude.proofs.{◌≡◌, List, [], ◌∷◌, None, refl, sym, ap, ◌∙◌, option_copied}
use Rattle.repl_log.specs.{EntryValue, common, log_in-found, log_in-absent}
use Rattle.repl_peer.specs.{log_of}
use Rattle.repl_peer.proofs.logs.checkpoint.Goals as goal

-- an empty log shares no session
common-nothing : (target : List EntryValue) → common [] target ≡ None
common-nothing [] = refl
common-nothing (t ∷ target) = common-nothing target

pub returns-in-Some : goal.returns-in-Some
returns-in-Some g c =
    let there = sym c.get.ensures ∙ ap option_copied c.in-Some.is in
    let log = log_in-found c.args.rep.now c.source.inside.outgoing c.in-Some.log.now there in
    rw (← c.source.view_is) (rw (← c.target.view_is) (c.shared_with.ensures ∙ ap (λ (l : List EntryValue). common l (log_of c.target.inside.sessions c.args.rep.now)) (sym log)))

pub returns-in-None : goal.returns-in-None
returns-in-None g c =
    let there = sym c.get.ensures ∙ ap option_copied c.in-None.is in
    let log = log_in-absent c.args.rep.now c.source.inside.outgoing there in
    rw (← c.source.view_is)
    (rw (← c.target.view_is)
    (sym (ap (λ (l : List EntryValue). common l (log_of c.target.inside.sessions c.args.rep.now)) log ∙ common-nothing (log_of c.target.inside.sessions c.args.rep.now))))
