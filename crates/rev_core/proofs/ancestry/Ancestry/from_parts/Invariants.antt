use Rattle.proof_prelude.proofs.{◌≡◌, ◌+◌, ◌++◌, drop, AllByRecursion}
use Rattle.rev_core.specs.{IsRev, numbered}
use Rattle.rev_core.proofs.ancestry.Ancestry.from_parts.Given as goal

abbrev pub invariant-loop-id : goal.invariant-loop-id
invariant-loop-id l = record {
  items : l.revs.items ++ numbered l.generation (drop l.id-index l.ids) ≡ numbered l.start l.ids;
  count : l.generation + l.id-index ≡ l.start;
  each : AllByRecursion IsRev l.revs.items;
}
