use Rattle.doc_json.proofs.{known_quoted}
use Rattle.doc_json.proofs.text.push_known_text.Goals as goal

pub returns-then-is_plain : goal.returns-then-is_plain
returns-then-is_plain c = known_quoted _ _ _ c.args.text.now c.args.is_plain c.if-is_plain.true c.push_standing.ensures.text
