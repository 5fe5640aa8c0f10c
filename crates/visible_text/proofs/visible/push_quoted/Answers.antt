use Rattle.proof_prelude.proofs.{◌≡◌, ◌++◌, [], ◌∷◌, arith, common_steps, chars, string_bytes}
use Rattle.visible_text.specs.{quoted_chars}
use Rattle.visible_text.proofs.{between}
use Rattle.visible_text.proofs.visible.push_quoted.Goals as goal

pub returns : goal.returns
unfolding lib.Utf8.encode
returns c =
    between c.push-2.result (string_bytes c.args.out.now) (string_bytes c.push.new.self) (string_bytes c.push_quoted_chars.new.out)
    (string_bytes c.push-2.new.self) (quoted_chars (chars c.args.text.now)) c.in_ok-push.ensures.bytes c.in_ok-push_quoted_chars.ensures (grind (arith, common_steps))
