use Rattle.proof_prelude.proofs.{◌≡◌, ◌-◌, ◌≤◌, [], ◌∷◌, ◌++◌, length, drop}
use Rattle.json.specs.Print.{escape, quoted}
use Rattle.doc_json.specs.{Keeps}
use Rattle.doc_json.proofs.text.push_escaped.Given as goal

-- what is written and the rest of the string, with its end, are the quoted string
abbrev pub invariant-loop-out : goal.invariant-loop-out
invariant-loop-out l =
    (l.at ≤ length l.text) × (l.out.items ++ (escape (drop l.at l.text) ++ 34 ∷ []) ≡ l.fn.out.items ++ quoted l.text)
    × Keeps l.fn.out.items l.out.items

abbrev pub decreases-loop-out : goal.decreases-loop-out
decreases-loop-out l = length l.text - l.at
