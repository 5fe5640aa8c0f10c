use Rattle.proof_prelude.proofs.{ap, ◌∙◌, is_some}
use Rattle.repl_inspect.proofs.{leaf_there}
use Rattle.repl_inspect.proofs.documents.leaf_document.Goals as goal

pub unwrap-requires : goal.unwrap-requires
unwrap-requires c = ap is_some (c.in_ok-found.ensures.document ∙ leaf_there c.args.database.now c.law.ensures c.args.id.now c.args.leaf c.requires)
