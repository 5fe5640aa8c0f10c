use Rattle.proof_prelude.proofs.{◌++◌, map, sym, ap, ◌∙◌, unwrap_or, list_all, option_copied, append-nil}
use Rattle.rev_tree.specs.{is_leaf, missing, no_revisions}
use Rattle.couch_base.specs.{tree_in, opened}
use Rattle.couch_base.proofs.{opened-no_revisions, missing-no_revisions, all_leaves}
use Rattle.couch_base.proofs.database.Database.fetch.Goals as goal

pub returns-in_default-clause-docs : goal.returns-in_default-clause-docs
returns-in_default-clause-docs c =
    let w = c.args.wanted.now in
    let docs = c.args.docs.now.items in
    let gone = ap (tree_in c.args.self.now.docs) (sym c.id-id.ensures) ∙ sym c.tree_by_hint.ensures.value ∙ ap option_copied c.in_default.is in
    sym (ap (λ l. docs ++ l) (ap (λ o. opened w.id (unwrap_or o no_revisions) w.revs) gone ∙ opened-no_revisions w.id w.revs) ∙ append-nil docs)

pub returns-in_default-clause-gone : goal.returns-in_default-clause-gone
returns-in_default-clause-gone c =
    let w = c.args.wanted.now in
    let gone = ap (tree_in c.args.self.now.docs) (sym c.id-id.ensures) ∙ sym c.tree_by_hint.ensures.value ∙ ap option_copied c.in_default.is in
    c.in_ok-add_revs.ensures.ok
    ∙ (λ i. c.args.gone.now.items ++ map (λ r. (c.id-id.ensures i, r)) (c.revs-asked.ensures i))
    ∙ ap (λ l. c.args.gone.now.items ++ map (λ r. (w.id, r)) l) (sym (ap (λ o. missing (unwrap_or o no_revisions) w.revs) gone ∙ missing-no_revisions w.revs))

pub add_documents-requires-clause-leaves : goal.add_documents-requires-clause-leaves
add_documents-requires-clause-leaves c =
    let t = c.in-Some.tree.now in
    ap (list_all (is_leaf t)) (c.deref.ensures ∙ c.in_ok-leaves.ensures) ∙ all_leaves t c.revs-asked.result.now

pub add_prepared-requires-clause-leaves : goal.add_prepared-requires-clause-leaves
add_prepared-requires-clause-leaves c =
    let t = c.in-Some.tree.now in
    ap (list_all (is_leaf t)) (c.deref-2.ensures ∙ c.in_ok-leaves.ensures) ∙ all_leaves t c.revs-asked.result.now
