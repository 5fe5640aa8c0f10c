use Rattle.proof_prelude.proofs.{◌≡◌, ◌++◌, map, take}
use Rattle.couch_base.proofs.exchange.add_revs.Given as goal

-- the revisions so far are added
abbrev pub invariant-loop-rev : goal.invariant-loop-rev
invariant-loop-rev l = l.gone.items ≡ l.initial.gone.items ++ map (λ r. (l.id, r)) (take l.rev-index l.revs)
