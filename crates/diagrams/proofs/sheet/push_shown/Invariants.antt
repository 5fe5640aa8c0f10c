use Rattle.proof_prelude.proofs.{◌≡◌, ◌++◌, string_bytes, encode_utf8_all}
use Rattle.diagrams.specs.{shown}
use Rattle.diagrams.proofs.sheet.push_shown.Given as goal

abbrev pub invariant-loop-c : goal.invariant-loop-c
invariant-loop-c l = string_bytes l.out ≡ string_bytes l.initial.out ++ encode_utf8_all (shown l.form l.yielded)
