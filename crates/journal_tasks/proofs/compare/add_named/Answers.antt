use Rattle.line_reader.proofs.{on_ok}
use Rattle.journal_lines.specs.Docs.{docs_view}
use Rattle.journal_lines.specs.Lists.{texts_of}
use Rattle.journal_tasks.proofs.{ids_named, leaves_named}
use Rattle.journal_tasks.proofs.compare.add_named.Goals as goal

pub returns-clause-ids : goal.returns-clause-ids
returns-clause-ids c =
    on_ok c.add_doc.result (ids_named (docs_view c.args.docs.now) (docs_view c.add_all.new.docs) (docs_view c.add_doc.new.docs) c.args.id.now (texts_of c.args.revs.now) c.in_ok-add_all.ensures) c.add_doc.ensures

pub returns-clause-leaves : goal.returns-clause-leaves
returns-clause-leaves c =
    on_ok c.add_doc.result (leaves_named (docs_view c.args.docs.now) (docs_view c.add_all.new.docs) (docs_view c.add_doc.new.docs) c.args.id.now (texts_of c.args.revs.now) c.in_ok-add_all.ensures) c.add_doc.ensures
