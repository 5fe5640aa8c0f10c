use Rattle.proof_prelude.proofs.{Ok, refl, ap, subst, ◌∙◌}
use Rattle.repl_peer.specs.{PeerValue}
use Rattle.script_engine.specs.{in_full, gave_up, served_only}
use Rattle.script_databases.specs.{IsTaken, with_peer}
use Rattle.write_commands.specs.{made_line}
use Rattle.command_api.proofs.{gave_up_at, printed, refused_memory}
use Rattle.write_commands.proofs.load.make_empty.Goals as goal

pub returns-in_err-peer : goal.returns-in_err-peer
returns-in_err-peer c = refused_memory c.from_residual.result _ c.from_residual.ensures.1 gave_up

pub returns-in_err-add : goal.returns-in_err-add
returns-in_err-add c = refused_memory c.from_residual-in_err-add.result _ c.from_residual-in_err-add.ensures.1 (gave_up_at c.in_err-add.ensures.err)

pub returns : goal.returns
returns c = in_full (ap Ok (printed c.in_ok-print_made.ensures c.requires.empty refl), c.in_ok-add.ensures.ok ∙ ap (with_peer c.args.databases.now c.args.db.now) c.in_ok-peer.ensures.0)

pub returns-in_err-print_made : goal.returns-in_err-print_made
returns-in_err-print_made c = refused_memory c.from_residual-in_err-print_made.result _ c.from_residual-in_err-print_made.ensures.1 (served_only (made_line c.args.db.now) (refl, c.in_ok-add.ensures.ok ∙ ap (with_peer c.args.databases.now c.args.db.now) c.in_ok-peer.ensures.0))

-- the new peer has the UUID, and neither sessions nor logs
pub add-requires-clause-fresh : goal.add-requires-clause-fresh
add-requires-clause-fresh c = λ taken. c.requires.fresh (subst (IsTaken c.args.databases.now) (ap (λ (l : PeerValue). l.db.uuid) c.in_ok-peer.ensures.0) taken)

pub add-requires-clause-unused : goal.add-requires-clause-unused
add-requires-clause-unused c = (ap (λ (l : PeerValue). l.sessions) c.in_ok-peer.ensures.0, ap (λ (l : PeerValue). l.outgoing) c.in_ok-peer.ensures.0)
