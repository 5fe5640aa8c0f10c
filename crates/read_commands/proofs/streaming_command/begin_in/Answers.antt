use Rattle.proof_prelude.proofs.{sym}
use Rattle.read_commands.proofs.{give_told}
use Rattle.command_api.proofs.{room_answered, room_refused}
use Rattle.read_commands.proofs.streaming_command.begin_in.Goals as goal

pub returns-in-None-clause-told : goal.returns-in-None-clause-told
returns-in-None-clause-told g c = room_refused (sym c.in-None.ensures)

pub returns-in-Err-clause-told : goal.returns-in-Err-clause-told
returns-in-Err-clause-told g c = room_answered (sym c.in-Some.ensures) c.in-Err.ensures.told

pub returns-clause-told : goal.returns-clause-told
returns-clause-told g c = room_answered (sym c.in-Some.ensures) (give_told c.args.databases.now c.in-Ok.rest c.give.result _ c.give.ensures.told c.give.ensures.memory c.in-Ok.ensures.told)
