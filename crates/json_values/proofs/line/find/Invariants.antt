use Rattle.proof_prelude.proofs.{◌≡◌, drop}
use Rattle.serde_json.specs.Find.{get_member}
use Rattle.json_values.specs.{line_members}
use Rattle.json_values.proofs.line.find.Given as goal

-- the member is among the remaining ones
abbrev pub invariant-loop-member : goal.invariant-loop-member
invariant-loop-member l = get_member l.name (line_members (drop l.member-index l.members)) ≡ get_member l.name (line_members l.members)
