use Rattle.proof_prelude.proofs.{◌≡◌, Option, Some, IfSome, true, sym, ap, ◌∙◌, subst, get, and_parts}
use Rattle.rev_core.specs.{RevId}
use Rattle.rev_tree.specs.{IsTree, IsAncestry-ancestors, ContentValue, TreeValue, ancestors, is_leaf, merged, no_revisions, Origin}
use Rattle.rev_tree.specs.PartLaws.{some_told, given_is}
use Rattle.rev_tree.specs.declared.origin.Origin.TheVariants.{Local}
use Rattle.couch_base.specs.{IsDocumentTree, merged_document, no_bodies}
use Rattle.couch_base.proofs.prepared_tree.PreparedTree.shared.Goals as goal

pub returns : goal.returns
returns c leaf is =
    let t = c.args.tree.now in
    let o : Origin = Local 0 in
    let content = some_told (get t.contents leaf) (c.requires.tree.leaf leaf is) in
    let same : c.in-Some.tree ≡ merged no_revisions (ancestors t leaf) content.0 o =
    subst (λ (x : Option TreeValue). IfSome x (λ u. (r : RevId) (b : ContentValue) → is_leaf t r ≡ true → get t.contents r ≡ Some b → u ≡ merged no_revisions (ancestors t r) b o))
    c.in-Some.is c.in_ok-tree.ensures.shared leaf content.0 is content.1 in
    let tree = subst (λ (x : Option TreeValue). IfSome x IsTree) c.in-Some.is c.in_ok-tree.ensures.tree in
    record {
      origin = o;
      key = c.in_ok-key.ensures.copied;
      tree = same ∙ ap (λ b. merged no_revisions (ancestors t leaf) b o) (sym (given_is t leaf content.0 content.1));
      document = subst IsDocumentTree (sym same)
          (merged_document no_revisions (ancestors t leaf) content.0 o (IsAncestry-ancestors t c.requires.tree leaf (and_parts _ _ is).0)
          (c.requires.bodies leaf content.0 content.1) no_bodies (subst IsTree same tree));
    }
