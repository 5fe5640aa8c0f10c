use Rattle.proof_prelude.proofs.{option_map}
use Rattle.couch_journal.proofs.{confirm_ran}
use Rattle.couch_journal.proofs.run.run_confirm.Goals as goal

pub returns-clause-ran : goal.returns-clause-ran
returns-clause-ran g c = confirm_ran (option_map (λ at. at.now) c.args.at) _ _ _ _ _ _ c.run_confirmed.result c.bytes_of.ensures c.run_confirmed.ensures.ran
