-- The documents so far have been printed.
use Rattle.proof_prelude.proofs.{◌≡◌, ◌++◌, take, flat_map}
use Rattle.read_commands.specs.{doc_line}
use Rattle.read_commands.proofs.docs.push_documents.Given as goal

abbrev pub invariant-loop-document : goal.invariant-loop-document
invariant-loop-document l = l.answer.items ≡ l.fn.answer.items ++ flat_map doc_line (take l.document-index l.documents)
