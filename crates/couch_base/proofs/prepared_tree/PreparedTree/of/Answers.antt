use Rattle.proof_prelude.proofs.{◌≡◌, sym, ap, ◌∙◌, subst}
use Rattle.rev_tree.specs.{IsTree, merged, merge_answer, no_revisions, Origin}
use Rattle.rev_tree.specs.declared.origin.Origin.TheVariants.{Local}
use Rattle.couch_base.specs.{IsDocumentTree, merged_document, no_bodies, content_of}
use Rattle.couch_base.proofs.{new_changes}
use Rattle.couch_base.proofs.prepared_tree.PreparedTree.of.Goals as goal

pub merge_change-requires : goal.merge_change-requires
merge_change-requires c = ap (λ t. merge_answer t c.ancestry-ancestry.result.now) c.new-tree.ensures ∙ new_changes c.ancestry-ancestry.result.now c.revs-revs.ensures.ancestry

pub returns : goal.returns
returns c =
    let d = c.args.doc.now in
    let o : Origin = Local 0 in
    let content : c.in_ok-content.content ≡ content_of d.deleted d.body = c.in_ok-content.ensures.content ∙ (λ i. content_of (c.deleted.ensures.part i) (c.body.ensures.part i)) in
    let empty : c.merge_change.new.self ≡ merged no_revisions c.ancestry-ancestry.result.now c.in_ok-content.content o = c.in_ok-merge_change.ensures.ok ∙ ap (λ t. merged t c.ancestry-ancestry.result.now c.in_ok-content.content o) c.new-tree.ensures in
    record {
      origin = o;
      key = c.in_ok-key.ensures.copied ∙ c.id.ensures.part;
      tree = empty ∙ (λ i. merged no_revisions (c.ancestry-ancestry.ensures.part i) (content i) o);
      document = subst IsDocumentTree (sym empty) (merged_document no_revisions c.ancestry-ancestry.result.now c.in_ok-content.content o c.revs-revs.ensures.ancestry c.in_ok-content.ensures.body no_bodies (subst IsTree empty c.in_ok-merge_change.ensures.tree));
    }
