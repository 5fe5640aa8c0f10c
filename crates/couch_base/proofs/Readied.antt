-- Documents with prepared trees, and storing one that is new.
use Rattle.proof_prelude.proofs.{◌≡◌, ℕ, zero, suc, ◌+◌, ◌<◌, List, [], ◌∷◌, ◌++◌, length, length-append, append_assoc, and_parts, arith, get_or, list_all, map, map-append, set, take, take_more, true, slice_get, slice_get_within, Option, Some, None, IfSome, Ok, Err, refl, sym, ap, subst, ◌∙◌, ◌⊎◌, inl, inr, same_Some, none-some}
use Rattle.rev_tree.specs.{TreeValue, is_leaf, merged, merge_answer, no_revisions, Origin}
use Rattle.rev_tree.specs.declared.fault.Merged.TheVariants.{Changed}
use Rattle.doc_json.specs.Document.{Document}
use Rattle.rev_core.specs.{IsAncestry, RevId}
use Rattle.couch_base.specs.{DatabaseValue, tree_of, with_tree, most, put_answer, after_put, content_of, AreMade, AreMadeAll, Id, IsMadeOf, PreparedTree, leaf_document, TableValue, database_of, found, tree_at, IsKept}
use Rattle.couch_base.specs.declared.fault.Put.TheVariants as answers
use Rattle.couch_base.proofs.Found.{tree_of-documents_of}
use Rattle.couch_base.proofs.Putting.{new_changes, answer-changed, after_put-changed}

-- the elements of a list with one more
at_end : {X : Type 0} (xs : List X) (x : X) (i : ℕ) (y : X) → slice_get (xs ++ x ∷ []) i ≡ Some y → (slice_get xs i ≡ Some y) ⊎ ((i ≡ length xs) × (x ≡ y))
at_end [] x zero y at = inr (refl, same_Some x y at)
at_end [] x (suc i) y at = absurd (none-some y at)
at_end (z ∷ xs) x zero y at = inl at
at_end (z ∷ xs) x (suc i) y at = elim (at_end xs x i y at) [ inl before ↦ inl before | inr last ↦ inr (ap suc last.0, last.1) ]

-- one more item of the list, which is None or the prepared tree of the next document
pub made_next : (docs : List Document) (all : List (Option PreparedTree)) (d : Document) (o : Option PreparedTree) → AreMade docs all → slice_get docs (length all) ≡ Some d → IfSome o (IsMadeOf d) → AreMade docs (all ++ o ∷ [])
made_next docs all d o made next new i e n doc at =
    elim (at_end all o i (Some n) at) [
      | inl before ↦ made i e n doc before
      | inr last ↦
          let same : d ≡ e = same_Some d e (sym next ∙ ap (slice_get docs) (sym last.0) ∙ doc) in
          subst (λ (x : Document). IsMadeOf x n) same (subst (λ (p : Option PreparedTree). IfSome p (IsMadeOf d)) last.1 new)
    ]

pub made_none : (docs : List Document) (all : List (Option PreparedTree)) → AreMade docs all → AreMade docs (all ++ None ∷ [])
made_none docs all made i e n doc at = elim (at_end all None i (Some n) at) [
  | inl before ↦ made i e n doc before
  | inr last ↦ absurd (none-some n last.1)
]

-- the elements of a list after one was replaced
set_at : {X : Type 0} (xs : List X) (i : ℕ) (x : X) (j : ℕ) (y : X) → slice_get (set xs i x) j ≡ Some y → (slice_get xs j ≡ Some y) ⊎ ((j ≡ i) × (x ≡ y))
set_at [] i x j y at = inl at
set_at (z ∷ xs) zero x zero y at = inr (refl, same_Some x y at)
set_at (z ∷ xs) zero x (suc j) y at = inl at
set_at (z ∷ xs) (suc i) x zero y at = inl at
set_at (z ∷ xs) (suc i) x (suc j) y at = elim (set_at xs i x j y at) [ inl before ↦ inl before | inr here ↦ inr (ap suc here.0, here.1) ]

-- an item of the list is replaced by None or the prepared tree of its document
pub made_put : (docs : List Document) (all : List (Option PreparedTree)) (k : ℕ) (d : Document) (o : Option PreparedTree) → AreMade docs all → slice_get docs k ≡ Some d → IfSome o (IsMadeOf d) → AreMade docs (set all k o)
made_put docs all k d o made is new i e n doc at =
    elim (set_at all k o i (Some n) at) [
      | inl before ↦ made i e n doc before
      | inr put ↦
          let same : d ≡ e = same_Some d e (sym is ∙ ap (slice_get docs) (sym put.0) ∙ doc) in
          subst (λ (x : Document). IsMadeOf x n) same (subst (λ (p : Option PreparedTree). IfSome p (IsMadeOf d)) put.1 new)
    ]

-- the prepared tree, or None, of one more document
pub made_one : (docs : List Document) (all : List (Option PreparedTree)) (d : Document) (o : Option PreparedTree) → AreMadeAll docs all → IfSome o (IsMadeOf d) → AreMadeAll (docs ++ d ∷ []) (all ++ o ∷ [])
made_one docs all d o made new = record {
  made = made_next (docs ++ d ∷ []) all d o (λ i e n doc at. made.made i e n (there i e n doc at) at) (ap (slice_get (docs ++ d ∷ [])) made.length ∙ last docs d) new;
  length = length-append all (o ∷ []) ∙ ap (λ n. n + 1) made.length ∙ sym (length-append docs (d ∷ []));
}
  where
    there : (i : ℕ) (e : Document) (n : PreparedTree) → slice_get (docs ++ d ∷ []) i ≡ Some e → slice_get all i ≡ Some (Some n) → slice_get docs i ≡ Some e
    there i e n doc at = elim (at_end docs d i e doc) [
      | inl before ↦ before
      | inr end ↦ absurd (omega (arith, slice_get_within all i (Some n) at, made.length, end.0))
    ]

    last : (docs : List Document) (d : Document) → slice_get (docs ++ d ∷ []) (length docs) ≡ Some d
    last [] d = refl
    last (x ∷ docs) d = last docs d

-- the only leaf of a tree, with its prepared tree
pub made_leaf : (id : Id) (t : TreeValue) (leaves : List RevId) (docs : List Document) (all : List (Option PreparedTree)) (o : Option PreparedTree) → length leaves ≡ 1 → list_all (is_leaf t) leaves ≡ true → AreMadeAll docs all
    → IfSome o (λ m. (leaf : RevId) → is_leaf t leaf ≡ true → IsMadeOf (leaf_document id t leaf) m) → AreMadeAll (docs ++ map (leaf_document id t) leaves) (all ++ o ∷ [])
made_leaf id t [] docs all o one top made new = absurd (omega (arith, one))
made_leaf id t (leaf ∷ (other ∷ leaves)) docs all o one top made new = absurd (omega (arith, one))
made_leaf id t (leaf ∷ []) docs all o one top made new = made_one docs all (leaf_document id t leaf) o made (of o new)
  where
    of : (o : Option PreparedTree) → IfSome o (λ m. (r : RevId) → is_leaf t r ≡ true → IsMadeOf (leaf_document id t r) m) → IfSome o (IsMadeOf (leaf_document id t leaf))
    of None new = tt
    of (Some m) new = new leaf (and_parts _ _ top).0

-- one more leaf, without a prepared tree
pub made_leaves : (id : Id) (t : TreeValue) (leaves : List RevId) (i : ℕ) (leaf : RevId) (docs : List Document) (all : List (Option PreparedTree)) → i < length leaves → leaf ≡ get_or leaves i leaf
    → AreMadeAll (docs ++ map (leaf_document id t) (take i leaves)) all → AreMadeAll (docs ++ map (leaf_document id t) (take (i + 1) leaves)) (all ++ None ∷ [])
made_leaves id t leaves i leaf docs all low is made =
    let before = map (leaf_document id t) (take i leaves) in
    subst (λ l. AreMadeAll l (all ++ None ∷ []))
    (append_assoc docs before (leaf_document id t leaf ∷ [])
    ∙ ap (λ l. docs ++ l) (sym (ap (map (leaf_document id t)) (take_more leaves i leaf low ∙ ap (λ x. take i leaves ++ x ∷ []) (sym is)) ∙ map-append (leaf_document id t) (take i leaves) (leaf ∷ []))))
    (made_one (docs ++ before) all (leaf_document id t leaf) None made tt)

module _ (uuid life : ℕ) (t : TableValue) (db : DatabaseValue) (view : database_of uuid life t ≡ db) (kept : IsKept t) (d : Document) (a : IsAncestry d.ancestry) (key : Id) (named : key ≡ d.id) (absent : found t.entries key ≡ None) where
  -- the document has no tree yet
  pub no_tree : tree_of db.docs d.id ≡ no_revisions
  no_tree = sym (λ i. tree_of (view i).docs (named i)) ∙ tree_of-documents_of t kept key ∙ ap tree_at absent

  -- a put of the document is a change
  pub new_document : merge_answer (tree_of db.docs d.id) d.ancestry ≡ Ok Changed
  new_document = ap (λ x. merge_answer x d.ancestry) no_tree ∙ new_changes d.ancestry a

  -- the put takes a sequence
  pub taken : db.update_seq < most → put_answer db d ≡ Ok (answers.Changed (db.update_seq + 1))
  taken room = answer-changed db d new_document room

  -- the put stores the prepared tree
  pub left : (tree : TreeValue) (o : Origin) → tree ≡ merged no_revisions d.ancestry (content_of d.deleted d.body) o → db.update_seq < most → with_tree db key tree ≡ after_put db d o
  left tree o made room =
      (λ i. with_tree db (named i) (made i))
      ∙ (λ i. with_tree db d.id (merged (sym no_tree i) d.ancestry (content_of d.deleted d.body) o))
      ∙ sym (after_put-changed db d o (db.update_seq + 1) (taken room))
