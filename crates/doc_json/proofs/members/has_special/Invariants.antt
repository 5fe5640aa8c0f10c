use Rattle.proof_prelude.proofs.{◌≡◌}
use Rattle.doc_json.specs.{has_special}
use Rattle.doc_json.proofs.{count}
use Rattle.doc_json.proofs.members.has_special.Given as goal

-- no member so far is special
abbrev pub invariant-loop-name : goal.invariant-loop-name
invariant-loop-name g l = has_special (g.V.JsonValue.left l.left) ≡ has_special (g.V.JsonValue.members_seen l.members)

abbrev pub decreases-loop-name : goal.decreases-loop-name
decreases-loop-name g l = count (g.V.JsonValue.left l.left)
