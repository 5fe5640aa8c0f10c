-- Each leaf has a content, so there is a document for it.
use Rattle.proof_prelude.proofs.{◌≡◌, true, false, [], Option, Some, None, is_some, refl, sym, ap, ◌∙◌, option_map, option_map_or, get, and_parts, false≢true}
use Rattle.rev_core.specs.{RevId}
use Rattle.rev_tree.specs.{ContentValue, TreeValue, is_leaf, ancestors}
use Rattle.doc_json.specs.Document.{Document}
use Rattle.couch_base.specs.{Id, DatabaseValue, LawfulDatabase, tree_of, IsDocumentTree-tree_of, leaf_document, document_in}

pub document_there : (id : Id) (t : TreeValue) (leaf : RevId) → is_some (get t.contents leaf) ≡ true → document_in id t leaf ≡ Some (leaf_document id t leaf)
document_there id t leaf h = go (get t.contents leaf) refl h
  where
    go : (o : Option ContentValue) → get t.contents leaf ≡ o → is_some o ≡ true → document_in id t leaf ≡ Some (leaf_document id t leaf)
    go None e nothing = absurd (false≢true nothing)
    go (Some b) e known =
        ap (option_map (λ (c : ContentValue). let d : Document = record { id = id; ancestry = ancestors t leaf; deleted = c.deleted; body = c.body } in d)) e
        ∙ sym (ap (λ (o : Option ContentValue). let d : Document = record { id = id; ancestry = ancestors t leaf; deleted = option_map_or (λ (c : ContentValue). c.deleted) o false; body = option_map_or (λ (c : ContentValue). c.body) o [] } in Some d) e)

-- a leaf of a database's document
pub leaf_there : (db : DatabaseValue) → LawfulDatabase db → (id : Id) (leaf : RevId) → is_leaf (tree_of db.docs id) leaf ≡ true → document_in id (tree_of db.docs id) leaf ≡ Some (leaf_document id (tree_of db.docs id) leaf)
leaf_there db law id leaf top =
    document_there id (tree_of db.docs id) leaf ((IsDocumentTree-tree_of db law id leaf (and_parts _ _ top).0).tree.leaf leaf top)
