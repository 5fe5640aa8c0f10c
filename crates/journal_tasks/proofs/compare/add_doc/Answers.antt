use Rattle.proof_prelude.proofs.{sym, ◌∙◌}
use Rattle.journal_tasks.proofs.{doc_added}
use Rattle.journal_tasks.proofs.compare.add_doc.Goals as goal

pub returns : goal.returns
returns c = λ other.
    doc_added c.args.docs.now.entries c.insert.new.self.entries c.in_ok-id.id c.new.result c.args.id.now other c.in_ok-id.ensures.ok c.new.ensures.empty c.in_ok-insert.ensures.entries (sym c.has_doc.ensures ∙ c.if-has_doc.false)
