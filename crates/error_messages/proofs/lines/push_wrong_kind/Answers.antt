use Rattle.proof_prelude.proofs.{string_bytes}
use Rattle.error_messages.proofs.{seen_then, seen_trans}
use Rattle.error_messages.proofs.lines.push_wrong_kind.Goals as goal

pub returns : goal.returns
returns c =
    seen_then c.push_words-2.result (string_bytes c.args.text.now) (string_bytes c.push_words.new.text) (string_bytes c.push_words-2.new.text)
    (seen_trans (string_bytes c.args.text.now) (string_bytes c.push_named.new.text) (string_bytes c.push_words.new.text) c.in_ok-push_named.ensures c.in_ok-push_words.ensures) c.push_words-2.ensures
