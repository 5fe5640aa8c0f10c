use Rattle.proof_prelude.proofs.{refl}
use Rattle.json.specs.Print.{quoted}
use Rattle.serde_json.specs.Written.{comma_if, compact_text}
use Rattle.doc_json.proofs.{member_put}
use Rattle.doc_json.proofs.compact.push_unless_special.Goals as goal

pub returns-clause-plain : goal.returns-clause-plain
returns-clause-plain g c = λ plain. (
  refl,
  member_put c.args.out.now.items (comma_if c.args.later) (quoted c.args.name.now) (compact_text (g.V.JsonValue.seen c.args.member.now)) (c.in_ok-push_name.ensures c.requires.name) (c.in_ok-push.ensures.text c.requires.plain),
)
