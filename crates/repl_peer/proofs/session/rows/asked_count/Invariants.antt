use Rattle.proof_prelude.proofs.{◌≡◌, ◌-◌, ◌^◌, min, length, take, sum_by}
use Rattle.repl_peer.proofs.session.rows.asked_count.Given as goal

-- the count so far
abbrev pub invariant-loop-wanted : goal.invariant-loop-wanted
invariant-loop-wanted l = l.count ≡ min (sum_by (λ wanted. length wanted.revs) (take l.wanted-index l.docs)) (2 ^ 64 - 1)
