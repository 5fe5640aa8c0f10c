use Rattle.proof_prelude.proofs.{ap, ◌∙◌, list_all}
use Rattle.rev_tree.specs.{is_leaf, leaves}
use Rattle.couch_base.specs.{tree_of}
use Rattle.repl_inspect.proofs.{loaded_back, leaves_leaves}
use Rattle.repl_inspect.proofs.documents.documents_of.Goals as goal

pub documents_at-requires : goal.documents_at-requires
documents_at-requires c =
    let t = tree_of c.args.database.now.docs c.args.id.now in
    ap (list_all (is_leaf t)) (c.as_slice.ensures ∙ c.in_ok-leaves.ensures ∙ ap leaves c.tree_or.ensures) ∙ leaves_leaves t

pub returns-clause-documents_load_back : goal.returns-clause-documents_load_back
returns-clause-documents_load_back c = loaded_back c.args.database.now c.law.ensures

pub returns-in_err-leaves-clause-documents_load_back : goal.returns-in_err-leaves-clause-documents_load_back
returns-in_err-leaves-clause-documents_load_back c = loaded_back c.args.database.now c.law.ensures
