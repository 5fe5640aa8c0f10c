use Rattle.proof_prelude.proofs.{ℕ, ◌+◌, ◌≡◌, ◌≤◌, length, decimal}
use Rattle.diagrams.proofs.sheet.digits.Given as goal

-- The digits of the entry's number are counted, except those of the number that is left.
pub record IsCounted (all left count step : ℕ) : Type 0 where
  pub counted : count + length (decimal left) ≡ length (decimal all) + 1
  pub few : length (decimal left) + step ≤ 20
  pub below : left ≤ all
  pub near : count ≤ step + 1

abbrev pub invariant-loop-step : goal.invariant-loop-step
invariant-loop-step l = IsCounted l.fn.number l.number l.count l.step
