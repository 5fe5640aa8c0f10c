use Rattle.proof_prelude.proofs.{rules, append_assoc, IfOk-equal}
use Rattle.doc_json.specs.{doc_text}
use Rattle.doc_json.proofs.write.push_parts.Goals as goal

pub returns-clause-text : goal.returns-clause-text
returns-clause-text c = unfold doc_text in search (rules, IfOk-equal, append_assoc)
