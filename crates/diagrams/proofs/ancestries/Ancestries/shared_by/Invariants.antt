use Rattle.proof_prelude.proofs.{◌≡◌, ◌+◌, Some, drop}
use Rattle.diagrams.specs.Ancestries.{ancestry_of, shared_count}
use Rattle.diagrams.proofs.ancestries.Ancestries.shared_by.Given as goal

abbrev pub invariant-loop-index : goal.invariant-loop-index
invariant-loop-index l =
    let one = ancestry_of l.self (Some l.one) in
    let other = ancestry_of l.self (Some l.other) in
    shared_count one other ≡ l.index + shared_count (drop l.index one) (drop l.index other)
