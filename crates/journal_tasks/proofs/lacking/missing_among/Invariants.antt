-- The members so far are about the documents, and their leaves are stored.
use Rattle.proof_prelude.proofs.{◌≡◌, [], drop}
use Rattle.json.specs.Value.{members_view}
use Rattle.journal_lines.specs.Docs.{docs_view}
use Rattle.journal_tasks.specs.Documents.{add_leaves}
use Rattle.journal_tasks.specs.Missing.{are_about, missing_leaves}
use Rattle.journal_tasks.proofs.lacking.missing_among.Given as goal

abbrev pub invariant-loop-member : goal.invariant-loop-member
invariant-loop-member l = record {
  about : are_about (docs_view l.docs) (members_view (drop l.member-index l.members)) ≡ are_about (docs_view l.docs) (members_view l.members);
  missing : add_leaves (docs_view l.missing) (missing_leaves (members_view (drop l.member-index l.members))) ≡ add_leaves [] (missing_leaves (members_view l.members));
}
