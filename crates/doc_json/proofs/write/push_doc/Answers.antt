use Rattle.doc_json.proofs.{read_back}
use Rattle.doc_json.proofs.write.push_doc.Goals as goal

pub returns-clause-reads_back : goal.returns-clause-reads_back
returns-clause-reads_back c = read_back _ c.deleted-deleted.ensures.document
