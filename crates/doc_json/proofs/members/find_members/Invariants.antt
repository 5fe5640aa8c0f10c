use Rattle.proof_prelude.proofs.{◌≡◌, ◌||◌, codes, option_map, option_or}
use Rattle.serde_json.specs.Find.{get_member}
use Rattle.serde_json.specs.Written.{members_have_float}
use Rattle.doc_json.specs.{has_unknown, plain_members}
use Rattle.doc_json.proofs.{count}
use Rattle.doc_json.proofs.members.find_members.Given as goal

-- what was found so far, or else what is found in the remaining members
abbrev pub invariant-loop-name : goal.invariant-loop-name
invariant-loop-name g l =
    let all = g.V.JsonValue.members_seen l.members in
    let left = g.V.JsonValue.left l.left in
    record {
      id : option_or (option_map (λ v. g.V.JsonValue.seen v.now) l.found.id) (get_member (codes "_id") left) ≡ get_member (codes "_id") all;
      attachments : option_or (option_map (λ v. g.V.JsonValue.seen v.now) l.found.attachments) (get_member (codes "_attachments") left) ≡ get_member (codes "_attachments") all;
      deleted : option_or (option_map (λ v. g.V.JsonValue.seen v.now) l.found.deleted) (get_member (codes "_deleted") left) ≡ get_member (codes "_deleted") all;
      rev : option_or (option_map (λ v. g.V.JsonValue.seen v.now) l.found.rev) (get_member (codes "_rev") left) ≡ get_member (codes "_rev") all;
      revisions : option_or (option_map (λ v. g.V.JsonValue.seen v.now) l.found.revisions) (get_member (codes "_revisions") left) ≡ get_member (codes "_revisions") all;
      unknown : (l.found.has_unknown || has_unknown left) ≡ has_unknown all;
      fraction : (l.found.has_fraction || members_have_float (plain_members left)) ≡ members_have_float (plain_members all);
    }

abbrev pub decreases-loop-name : goal.decreases-loop-name
decreases-loop-name g l = count (g.V.JsonValue.left l.left)
