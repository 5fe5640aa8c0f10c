-- Lemmas about databases.
use Rattle.std.specs.Prelude.{◌≡◌, true, false, cond, List, [], ◌∷◌, Option, Some, None, is_some, unwrap_or, refl}
use Rattle.std.proofs.Common.{ap, sym, subst, ◌∙◌}
use Rattle.std.proofs.lemmas.Bool.{false≢true}
use Rattle.std.specs.List.{AllByRecursion}
use Rattle.std.specs.Option.{option_map_or}
use Rattle.std.specs.Str.{bytes_eq}
use Rattle.std.specs.FinMap.{get-empty}
use Rattle.rev_core.specs.Rev.{RevId, rev_cmp}
use Rattle.rev_tree.specs.Tree.{TreeValue, has, no_revisions}
use Rattle.couch_base.specs.Database.{Id, DocumentValue, DatabaseValue, LawfulDatabase, IsDocumentTree, tree_in, tree_of}

tree_there : (ds : List DocumentValue) → AllByRecursion (λ (d : DocumentValue). IsDocumentTree d.tree) ds → (id : Id) (t : TreeValue) → tree_in ds id ≡ Some t → IsDocumentTree t
tree_there [] all id t is = absurd (false≢true (ap is_some is))
tree_there (d ∷ ds) all id t is =
    elim (bytes_eq d.id id) as (λ b. cond b (Some d.tree) (tree_in ds id) ≡ Some t → IsDocumentTree t) [
      | true ↦ λ h. subst IsDocumentTree (ap (λ o. option_map_or (λ x. x) o t) h) all.0
      | false ↦ λ h. tree_there ds all.1 id t h
    ] is

-- The tree of an existing document satisfies the invariant of a document's tree.
pub IsDocumentTree-tree_in : (db : DatabaseValue) → LawfulDatabase db → (id : Id) (t : TreeValue) → tree_in db.docs id ≡ Some t → IsDocumentTree t
IsDocumentTree-tree_in db law id t is = tree_there db.docs law.trees id t is

-- If a document's tree has a revision, the tree satisfies the invariant of a document's tree.
pub IsDocumentTree-tree_of : (db : DatabaseValue) → LawfulDatabase db → (id : Id) (r : RevId) → has (tree_of db.docs id) r ≡ true → IsDocumentTree (tree_of db.docs id)
IsDocumentTree-tree_of db law id r known = go (tree_in db.docs id) refl
  where
    go : (o : Option TreeValue) → tree_in db.docs id ≡ o → IsDocumentTree (tree_of db.docs id)
    go None is = absurd (false≢true (sym (ap (λ o. has (unwrap_or o no_revisions) r) is ∙ ap is_some (get-empty rev_cmp r)) ∙ known))
    go (Some t) is = subst IsDocumentTree (sym (ap (λ o. unwrap_or o no_revisions) is)) (IsDocumentTree-tree_in db law id t is)
