use Rattle.proof_prelude.proofs.{string_bytes}
use Rattle.error_messages.proofs.{seen_then}
use Rattle.error_messages.proofs.lines.push_read_reason.Goals as goal

pub returns : goal.returns
returns c =
    seen_then c.push_words.result (string_bytes c.args.text.now) (string_bytes c.push_place.new.text) (string_bytes c.push_words.new.text) c.in_ok-push_place.ensures c.push_words.ensures
