use Rattle.proof_prelude.proofs.{◌≡◌, ◌&&◌, drop, list_all}
use Rattle.rev_core.specs.{is_sig_byte}
use Rattle.rev_core.proofs.sig.all_sig_bytes.Given as goal

-- the bytes tested so far, and the remaining ones
abbrev pub invariant-loop-b : goal.invariant-loop-b
invariant-loop-b l = (l.all && list_all is_sig_byte (drop l.b-index l.text)) ≡ list_all is_sig_byte l.text
