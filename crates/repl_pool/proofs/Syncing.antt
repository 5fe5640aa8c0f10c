-- The effect of a run, as that of any replication.
use Rattle.proof_prelude.proofs.{ℕ, Bool, List, Result, ap, inl, inr}
use Rattle.doc_json.specs.Document.{Document}
use Rattle.repl_peer.specs.{PeerValue, Report}
use Rattle.repl_target.specs.{Plan, IsPut, Leaves}
use Rattle.repl_target.proofs.{puts_over}
use Rattle.pool_workers.specs.{Place, PoolFault}
use Rattle.repl_pool.specs.{LeavesOrPuts, RunsOn}

run_puts : {F : Type 0} (plan : Plan) (source target source' target' : F × PeerValue) (outcome : Result Report PoolFault) → LeavesOrPuts plan source target source' target' outcome → IsPut source.1 target'.1 plan.chosen source'.1
run_puts {F = F} plan source target source' target' outcome (inl same) = inl (ap (λ (p : F × PeerValue). p.1) same.0)
run_puts plan source target source' target' outcome (inr b) = puts_over source.1 target'.1 plan b.put.entry b.put.put source'.1 b.put.told b.put.puts

pub run_leaves : {F : Type 0} (refuses : F → Document → Bool) (may_fill : Type 0) (may_stop : Place → Type 0) (plan : Plan) (source target source' target' : F × PeerValue) (fetched : List ℕ) (outcome : Result Report PoolFault) → RunsOn refuses may_fill may_stop plan source target source' target' fetched outcome
    → Leaves (refuses target.0) source.1 target.1 plan source'.1 target'.1
run_leaves refuses may_fill may_stop plan source target source' target' fetched outcome runs = record {
  log = runs.log;
  put = run_puts plan source target source' target' outcome runs.put;
  left = runs.grown.1;
  tied = runs.tied;
  others = runs.others;
}
