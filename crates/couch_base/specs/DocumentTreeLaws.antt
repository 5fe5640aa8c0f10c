-- Lemmas about the trees of documents: a merge keeps the invariant of the tree.
use Rattle.std.proofs.Common.{◌≡◌, ◌<◌, ◌||◌, cond, inl, inr, subst, false, Some, None, List, [], ◌∷◌, true, length, map, filter, sym, ap, ◌∙◌, arith}
use Rattle.std.proofs.lemmas.List.{nil_from_length}
use Rattle.std.specs.FinMap.{FinMap, empty, entries, find, get, get-empty, len-entries, len-empty}
use Rattle.std.proofs.lemmas.Bool.{false≢true}
use Rattle.std.specs.Ordering.{eq_by_cmp}
use Rattle.std.proofs.lemmas.Option.{same_Some, none-some}
use Rattle.doc_json.specs.Body.{IsBody}
use Rattle.rev_core.specs.Rev.{RevId, rev_cmp}
use Rattle.rev_core.specs.RevOrder.{rev_tie_self}
use Rattle.rev_core.specs.Ancestry.{IsAncestry, is_among}
pub use Rattle.rev_tree.proofs.Starts.{IsTree-no_revisions}
use Rattle.rev_tree.specs.Content.{ContentValue}
use Rattle.rev_tree.specs.Tree.{TreeValue, IsTree, has, is_leaf, leaf_cmp, leaves, merged, at_head, no_revisions}
use Rattle.rev_tree.specs.InOrder.{in_order, in_order-nil}
use Rattle.rev_tree.specs.TreeLaws.{has-merged_given, get-joined, some_or}
use Rattle.rev_tree.specs.LeafLaws.{leaf_above, is_among-leaves}
use Rattle.rev_tree.specs.declared.origin.Origin.{Origin}
use Rattle.couch_base.specs.Database.{IsDocumentTree, HasBodies}

nonempty : (r : RevId) (revs : List RevId) → is_among r revs ≡ true → 0 < length revs
nonempty r [] h = absurd (false≢true h)
nonempty r (s ∷ revs) h = omega arith

-- A revision tree with a revision has a leaf.
pub has_leaf : (t : TreeValue) → IsTree t → (r : RevId) → has t r ≡ true → 0 < length (leaves t)
has_leaf t tree r known = let up = leaf_above t tree r known in nonempty up.0 (leaves t) (is_among-leaves t up.0 ∙ up.1.leaf)

-- An empty revision tree has no bodies.
pub no_bodies : HasBodies no_revisions
no_bodies r b is = absurd (none-some b (sym (get-empty rev_cmp r) ∙ is))

head_content : (revs : List RevId) (b x : ContentValue) (r : RevId) → find rev_cmp r (at_head revs b) ≡ Some x → b ≡ x
head_content [] b x r is = absurd (none-some x is)
head_content (h ∷ rest) b x r is =
    elim (eq_by_cmp rev_cmp r h) as (λ t. cond t (Some b) None ≡ Some x → b ≡ x) [
      | true ↦ λ k. same_Some b x k
      | false ↦ λ k. absurd (none-some x k)
    ] is

merged_bodies : (t : TreeValue) (revs : List RevId) (b : ContentValue) (o : Origin) → HasBodies t → IsBody b.body → HasBodies (merged t revs b o)
merged_bodies t revs b o bodies body r x is =
    elim (some_or (get t.contents r) (find rev_cmp r (at_head revs b)) x (sym (get-joined t.contents (at_head revs b) r) ∙ is)) [
      | inl known ↦ bodies r x known
      | inr given ↦ subst (λ (c : ContentValue). IsBody c.body) (head_content revs b x r given.1) body
    ]

-- Merging an ancestry and a content with a valid body into a tree gives a valid tree of a document.
pub merged_document : (t : TreeValue) (revs : List RevId) (b : ContentValue) (o : Origin) → IsAncestry revs → IsBody b.body → HasBodies t → IsTree (merged t revs b o) → IsDocumentTree (merged t revs b o)
merged_document t [] b o a body bodies tree = absurd (omega (arith, a.nonempty))
merged_document t (r ∷ rest) b o a body bodies tree = record {
  tree = tree;
  leaf = has_leaf (merged t (r ∷ rest) b o) tree r (has-merged_given t (r ∷ rest) b o r (ap (λ x. x || is_among r rest) (rev_tie_self r)));
  bodies = merged_bodies t (r ∷ rest) b o bodies body;
}

-- An empty revision tree has no leaves.
pub leaves-no_revisions : leaves no_revisions ≡ []
leaves-no_revisions =
    ap (λ (es : List (RevId × Origin)). in_order (leaf_cmp no_revisions) (filter (is_leaf no_revisions) (map (λ e. e.0) es)))
    (nil_from_length (entries none) (sym (len-entries none) ∙ len-empty rev_cmp Origin))
    ∙ in_order-nil (leaf_cmp no_revisions)
  where
    none : FinMap rev_cmp Origin
    none = empty
