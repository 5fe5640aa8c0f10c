use Rattle.proof_prelude.proofs.{Ok, sym, ap, ◌∙◌, option_copied}
use Rattle.repl_peer.specs.{SessionValue, entry_of, found_answer}
use Rattle.repl_peer.proofs.peer.Peer.entry.Goals as goal

pub returns-in-Some : goal.returns-in-Some
returns-in-Some g c =
    let found = sym c.find.ensures ∙ ap option_copied c.in-Some.is in
    rw (← c.self.view_is) (ap Ok c.entry.ensures ∙ ap (found_answer (λ (s : SessionValue). Ok (entry_of s))) (sym found))

pub returns-in-None : goal.returns-in-None
returns-in-None g c =
    let absent = sym c.find.ensures ∙ ap option_copied c.in-None.is in
    rw (← c.self.view_is) (ap (found_answer (λ (s : SessionValue). Ok (entry_of s))) (sym absent))
