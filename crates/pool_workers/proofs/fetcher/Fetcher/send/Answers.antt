use Rattle.proof_prelude.proofs.{rules}
use Rattle.pool_workers.proofs.fetcher.Fetcher.send.Goals as goal

pub hand_over-requires-clause-counted : goal.hand_over-requires-clause-counted
hand_over-requires-clause-counted g c = search rules
