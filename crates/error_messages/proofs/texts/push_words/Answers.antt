use Rattle.proof_prelude.proofs.{chars, string_bytes}
use Rattle.error_messages.proofs.{adds_visible}
use Rattle.error_messages.proofs.texts.push_words.Goals as goal

pub returns : goal.returns
returns c = adds_visible c.push_visible.result (string_bytes c.args.text.now) (string_bytes c.push_visible.new.out) (chars c.args.words.now) c.push_visible.ensures
