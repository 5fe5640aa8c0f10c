-- The members that are found and those that are left are all members.
use Rattle.proof_prelude.proofs.{◌≡◌, [], drop}
use Rattle.json.specs.Value.{members_view}
use Rattle.relay_responses.specs.Maps.{values_in}
use Rattle.relay_responses.specs.Diffs.{last_members}
use Rattle.relay_responses.proofs.diffs.last_members.Given as goal

abbrev pub invariant-loop-member : goal.invariant-loop-member
invariant-loop-member l =
    last_members (values_in l.found.entries) (members_view (drop l.member-index l.member-items)) ≡ last_members [] (members_view l.member-items)
