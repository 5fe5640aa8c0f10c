-- The number of workers in each group.
use Rattle.proof_prelude.proofs.{◌≡◌, ℕ, ◌<◌, ◌≤◌, nat_le, min, sym, subst, arith, cond_both, min-le_right}
use Rattle.repl_target.specs.{Plan}
use Rattle.repl_pool.specs.{most_windows, crew_of}

-- at least one
pub crew_some : (plan : Plan) (start goal n : ℕ) → n ≡ crew_of plan start goal → 0 < plan.workers → 0 < n
crew_some plan start goal n is some =
    subst (λ k. 0 < k) (sym is)
    (cond_both (nat_le goal start) 1 (min (most_windows plan start goal) plan.workers) (λ k. 0 < k) (λ _. omega arith) (λ _. omega (arith, some)))

-- not more than the plan has
pub crew_most : (plan : Plan) (start goal n : ℕ) → n ≡ crew_of plan start goal → 0 < plan.workers → n ≤ plan.workers
crew_most plan start goal n is some =
    subst (λ k. k ≤ plan.workers) (sym is)
    (cond_both (nat_le goal start) 1 (min (most_windows plan start goal) plan.workers) (λ k. k ≤ plan.workers) (λ _. omega (arith, some)) (λ _. min-le_right (most_windows plan start goal) plan.workers))
