use Rattle.proof_prelude.proofs.{◌≡◌, ◌++◌, string_bytes, encode_utf8_all}
use Rattle.visible_text.specs.{quoted_chars}
use Rattle.visible_text.proofs.visible.push_quoted_chars.Given as goal

abbrev pub invariant-loop-c : goal.invariant-loop-c
invariant-loop-c l = string_bytes l.out ≡ string_bytes l.initial.out ++ encode_utf8_all (quoted_chars l.yielded)
