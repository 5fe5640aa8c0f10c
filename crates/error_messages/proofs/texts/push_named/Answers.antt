use Rattle.proof_prelude.proofs.{string_bytes}
use Rattle.error_messages.proofs.{seen_then}
use Rattle.error_messages.proofs.texts.push_named.Goals as goal

pub returns : goal.returns
returns c =
    seen_then c.push_json.result (string_bytes c.args.text.now) (string_bytes c.push_words.new.text) (string_bytes c.push_json.new.text) c.in_ok-push_words.ensures c.push_json.ensures
