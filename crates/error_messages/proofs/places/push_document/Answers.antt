use Rattle.proof_prelude.proofs.{string_bytes}
use Rattle.error_messages.proofs.{seen_then, seen_trans}
use Rattle.error_messages.proofs.places.push_document.Goals as goal

pub returns : goal.returns
returns c =
    seen_then c.push_words.result (string_bytes c.args.text.now) (string_bytes c.push_member.new.text) (string_bytes c.push_words.new.text)
    (seen_trans (string_bytes c.args.text.now) (string_bytes c.push_named.new.text) (string_bytes c.push_member.new.text) c.in_ok-push_named.ensures c.in_ok-push_member.ensures) c.push_words.ensures
