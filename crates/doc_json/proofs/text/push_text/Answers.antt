use Rattle.doc_json.proofs.{standing_quoted}
use Rattle.doc_json.proofs.text.push_text.Goals as goal

pub returns-clause-text : goal.returns-clause-text
returns-clause-text c = standing_quoted _ _ _ c.args.text.now (rw (← c.as_bytes.ensures.value) (c.is_plain.ensures c.if-not-is_plain.false)) c.push_standing.ensures.text
