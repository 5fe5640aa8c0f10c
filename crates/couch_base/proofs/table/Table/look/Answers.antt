use Rattle.proof_prelude.proofs.{Some, subst, sym, ap, ◌∙◌}
use Rattle.rev_tree.specs.{merge_answer}
use Rattle.couch_base.specs.{tree_of, is_change, TableValue, documents_of, tree_at, IsPlace}
use Rattle.couch_base.proofs.{tree_of-documents_of, placed, new_changes}
use Rattle.couch_base.proofs.table.Table.look.Goals as goal

pub returns-in-Some-clause-place : goal.returns-in-Some-clause-place
returns-in-Some-clause-place c =
    let e = c.in-Some.ensures in
    subst (λ (v : TableValue). IsPlace v.entries c.args.id.now (Some c.in-Some.place)) c.self.view_is (placed c.self.inside.docs.entries c.args.id.now c.in-Some.place c.in-Some._id.now c.in-Some.kept.now e.index e.entry e.value)

pub returns-in-Some-clause-changes : goal.returns-in-Some-clause-changes
returns-in-Some-clause-changes c =
    let is = tree_of-documents_of _ c.self.invariant c.args.id.now ∙ ap tree_at (sym c.in-Some.ensures.value) in
    c.is_change.ensures
    ∙ ap (λ t. is_change (merge_answer t c.args.ancestry.now)) (sym is)
    ∙ ap (λ (v : TableValue). is_change (merge_answer (tree_of (documents_of v) c.args.id.now) c.args.ancestry.now)) c.self.view_is

pub returns-in-None-clause-changes : goal.returns-in-None-clause-changes
returns-in-None-clause-changes c =
    let is = tree_of-documents_of _ c.self.invariant c.args.id.now ∙ ap tree_at (sym c.in-None.ensures.value) in
    sym (ap is_change (new_changes c.args.ancestry.now c.revs-revs.ensures.ancestry))
    ∙ ap (λ t. is_change (merge_answer t c.args.ancestry.now)) (sym is)
    ∙ ap (λ (v : TableValue). is_change (merge_answer (tree_of (documents_of v) c.args.id.now) c.args.ancestry.now)) c.self.view_is
