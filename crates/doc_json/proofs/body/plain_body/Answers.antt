use Rattle.proof_prelude.proofs.{refl, arc_slice_items}
use Rattle.doc_json.proofs.{is_body, plain_members_plain}
use Rattle.doc_json.proofs.body.plain_body.Goals as goal

pub from_text-requires : goal.from_text-requires
from_text-requires g c = is_body (arc_slice_items c.in_ok-text.text) _ _ refl (plain_members_plain (g.V.JsonValue.members_seen c.args.members.now)) c.requires.exact c.in_ok-text.ensures
