use Rattle.proof_prelude.proofs.{sym}
use Rattle.command_api.proofs.{room_answered, room_refused}
use Rattle.command_api.proofs.command.serve_in.Goals as goal

pub returns-in-Some : goal.returns-in-Some
returns-in-Some g c = room_answered (sym c.in-Some.ensures) c.serve.ensures

pub returns-in-None : goal.returns-in-None
returns-in-None g c = room_refused (sym c.in-None.ensures)
