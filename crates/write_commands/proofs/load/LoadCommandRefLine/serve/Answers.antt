use Rattle.proof_prelude.proofs.{ap}
use Rattle.script_databases.specs.{Program}
use Rattle.command_api.proofs.{taken_back}
use Rattle.write_commands.proofs.load.LoadCommandRefLine.serve.Goals as goal

pub returns : goal.returns
returns g c = taken_back _ c.load_loud-served.result c.load_loud-served.new.answer.items _ (ap (λ (p : Program). p.quiet) c.settings.ensures) c.hush.ensures c.load_loud-served.ensures
