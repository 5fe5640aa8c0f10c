use Rattle.proof_prelude.proofs.{chars, string_bytes}
use Rattle.error_messages.proofs.{adds_quoted}
use Rattle.error_messages.proofs.texts.push_json.Goals as goal

pub returns : goal.returns
returns c = adds_quoted c.push_quoted.result (string_bytes c.args.text.now) (string_bytes c.push_quoted.new.out) (chars c.args.name.now) c.push_quoted.ensures
