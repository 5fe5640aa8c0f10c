use Rattle.proof_prelude.proofs.{sym, ◌∙◌}
use Rattle.repl_peer.proofs.{session_in-lookup}
use Rattle.repl_peer.proofs.session.sessions.Sessions.find.Goals as goal

pub returns : goal.returns
returns c = rw (← c.self.view_is) (c.get.ensures.value ∙ sym (session_in-lookup c.self.inside.ledgered c.self.inside.entries.entries c.self.invariant.0 c.args.id))
