use Rattle.proof_prelude.proofs.{rules}
use Rattle.json.specs.Print.{escape_byte}
use Rattle.doc_json.proofs.text.escape_of.Goals as goal

pub returns-then-letter-gt0-clause-value : goal.returns-then-letter-gt0-clause-value
returns-then-letter-gt0-clause-value c = unfold escape_byte in search rules

pub returns-then-byte-lt32-clause-value : goal.returns-then-byte-lt32-clause-value
returns-then-byte-lt32-clause-value c = unfold escape_byte in search rules

pub returns-clause-value : goal.returns-clause-value
returns-clause-value c = unfold escape_byte in search rules
