use Rattle.proof_prelude.proofs.{◌≡◌, ◌+◌, ◌-◌, ◌<◌, ◌++◌, length, take, drop}
use Rattle.json_values.proofs.unescape.append_run.Given as goal

abbrev pub invariant-loop-done : goal.invariant-loop-done
invariant-loop-done l =
    (take (l.at + l.done) l.out ≡ take l.at l.initial.out ++ take l.done (drop l.from l.text)) × (l.done < l.len + 32) × (length l.out ≡ length l.initial.out)

abbrev pub decreases-loop-done : goal.decreases-loop-done
decreases-loop-done l = l.len - l.done
