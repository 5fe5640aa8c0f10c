use Rattle.proof_prelude.proofs.{◌≡◌, ◌++◌, take}
use Rattle.doc_json.specs.{sig_texts}
use Rattle.doc_json.proofs.write.push_sigs.Given as goal

-- the signatures so far
abbrev pub invariant-loop-i : goal.invariant-loop-i
invariant-loop-i l = l.out.items ≡ l.initial.out.items ++ sig_texts (take l.i l.revs)
