-- The effect of an edit.
use Rattle.proof_prelude.proofs.{◌≡◌, ℕ, ◌+◌, ◌<◌, Bool, false, ◌&&◌, List, ◌∷◌, Option, Some, None, is_some, Ok, Err, sym, ap, ◌∙◌, refl, Result, unwrap_or, list_all, option_or, option_to_list, get, get-empty, false≢true, same_Some}
use Rattle.rev_core.specs.{RevId, rev_cmp, edges_of, head_of, ◌>>=◌, refused_if}
use Rattle.rev_tree.specs.{TreeValue, IsTree, has, has_edge, no_revisions, first_contradiction, contradiction_at, is_same, at_head, merged, merge_answer, Origin}
use Rattle.rev_tree.specs.declared.fault.Merged.TheVariants.{Changed}
use Rattle.couch_base.specs.{Id, DatabaseValue, LawfulDatabase, tree_in, tree_of, with_tree, most, IsDocumentTree-tree_in, content_of, put_answer, parent_answer, edit_id, edit_revs, edited, edit_document, after_edited, after_edit, BaseFault}
use Rattle.couch_base.specs.declared.fault.Put.TheVariants as answers
use Rattle.couch_base.specs.declared.fault.BaseFault.TheVariants as faults
use Rattle.couch_base.proofs.Putting.{from_tests, answer-changed, after_put-changed}

-- ---- a new revision

-- a revision that does not exist has no parent
no_parent_in : (t : TreeValue) → IsTree t → (r : RevId) → has t r ≡ false → get t.parents r ≡ None
no_parent_in t tree r absent =
    elim (get t.parents r) as (λ o. get t.parents r ≡ o → o ≡ None) [
      | None ↦ λ _. refl
      | Some p ↦ λ is. absurd (false≢true (sym absent ∙ tree.child r p is))
    ] refl

no_parent : (db : DatabaseValue) → LawfulDatabase db → (id : Id) (r : RevId) → has (tree_of db.docs id) r ≡ false → get (tree_of db.docs id).parents r ≡ None
no_parent db law id r absent = go (tree_in db.docs id) refl
  where
    go : (o : Option TreeValue) → tree_in db.docs id ≡ o → get (tree_of db.docs id).parents r ≡ None
    go None is = ap (λ o. get (unwrap_or o no_revisions).parents r) is ∙ get-empty rev_cmp r
    go (Some t) is =
        ap (λ o. get (unwrap_or o no_revisions).parents r) is
        ∙ no_parent_in t (IsDocumentTree-tree_in db law id t is).tree r (sym (ap (λ o. has (unwrap_or o no_revisions) r) is) ∙ absent)

-- ---- a new revision with a parent

new_contradicts_none : (t : TreeValue) (r : RevId) (before : Option RevId) → get t.parents r ≡ None → first_contradiction t.parents (edges_of (r ∷ option_to_list before)) ≡ None
new_contradicts_none t r None alone = refl
new_contradicts_none t r (Some p) alone = ap (λ o. option_or (contradiction_at r p o) None) alone

new_is_not_same : (t : TreeValue) (r : RevId) (rest : List RevId) → has t r ≡ false → is_same t (r ∷ rest) ≡ false
new_is_not_same t r rest absent =
    ap (λ b. (b && list_all (has t) rest) && list_all (has_edge t) (edges_of (r ∷ rest)) && list_all (λ (e : RevId × Unit {0}). is_some (get t.contents e.0)) (at_head (r ∷ rest) tt)) absent

-- what the steps of an edit have established
pub record IsEdited (db : DatabaseValue) (id : Id) (parent : Option RevId) (deleted : Bool) (body : List ℕ) (before : Option RevId) (revs : List RevId) (rev : RevId) : Type 0 where
  pub told : edited db id parent deleted body ≡ Ok (rev, before)
  pub whole : revs ≡ rev ∷ option_to_list before

from_id : (db : DatabaseValue) (id : Id) (parent : Option RevId) (deleted : Bool) (body : List ℕ) (before : Option RevId) (revs : List RevId) (rev : RevId) (r : Result RevId BaseFault)
    → edit_id before deleted body ≡ r → Ok before ≡ parent_answer (tree_in db.docs id) parent → Ok revs ≡ (r >>= λ x. Ok (x ∷ option_to_list before)) → head_of revs ≡ Some rev → has (tree_of db.docs id) rev ≡ false → IsEdited db id parent deleted body before revs rev
from_id db id parent deleted body before revs rev (Err e) is on told head absent = cc
from_id db id parent deleted body before revs rev (Ok x) is on told head absent =
    let whole : revs ≡ x ∷ option_to_list before = cc in
    let same : x ≡ rev = same_Some x rev (sym (ap head_of whole) ∙ head) in
    let last : RevId → Result (RevId × Option RevId) BaseFault = λ y. refused_if (has (tree_of db.docs id) y) (faults.RevExists y) >>= λ _. Ok (y, before) in
    let next : Option RevId → Result (RevId × Option RevId) BaseFault = λ b. edit_id b deleted body >>= λ y. refused_if (has (tree_of db.docs id) y) (faults.RevExists y) >>= λ _. Ok (y, b) in
    record {
      told =
          ap (λ p. p >>= next) (sym on)
          ∙ ap (λ i. i >>= last) is
          ∙ ap last same
          ∙ ap (λ b. refused_if b (faults.RevExists rev) >>= λ _. Ok (rev, before)) absent;
      whole = whole ∙ ap (λ r. r ∷ option_to_list before) same;
    }

pub edited_from : (db : DatabaseValue) (id : Id) (parent : Option RevId) (deleted : Bool) (body : List ℕ) (before : Option RevId) (revs : List RevId) (rev : RevId)
    → Ok before ≡ parent_answer (tree_in db.docs id) parent → Ok revs ≡ edit_revs before deleted body → head_of revs ≡ Some rev → has (tree_of db.docs id) rev ≡ false → IsEdited db id parent deleted body before revs rev
edited_from db id parent deleted body before revs rev on told head absent = from_id db id parent deleted body before revs rev (edit_id before deleted body) refl on told head absent

-- a new revision changes the tree
pub new_revision_changes : (db : DatabaseValue) → LawfulDatabase db → (id : Id) (rev : RevId) (before : Option RevId) → has (tree_of db.docs id) rev ≡ false → merge_answer (tree_of db.docs id) (rev ∷ option_to_list before) ≡ Ok Changed
new_revision_changes db law id rev before absent =
    let t = tree_of db.docs id in
    from_tests t (rev ∷ option_to_list before) (new_contradicts_none t rev before (no_parent db law id rev absent)) (new_is_not_same t rev (option_to_list before) absent)

-- the document of a new revision changes the database, if a sequence is left
pub put_answer-edit : (db : DatabaseValue) → LawfulDatabase db → (id : Id) (rev : RevId) (before : Option RevId) (deleted : Bool) (body : List ℕ) → has (tree_of db.docs id) rev ≡ false → db.update_seq < most
    → put_answer db (edit_document id (rev, before) deleted body) ≡ Ok (answers.Changed (db.update_seq + 1))
put_answer-edit db law id rev before deleted body absent room =
    answer-changed db (edit_document id (rev, before) deleted body) (new_revision_changes db law id rev before absent) room

-- an edit merges its new revision
pub after_edit-changed : (db : DatabaseValue) → LawfulDatabase db → (id : Id) (parent : Option RevId) (deleted : Bool) (body : List ℕ) (o : Origin) (before : Option RevId) (revs : List RevId) (rev : RevId)
    → IsEdited db id parent deleted body before revs rev → has (tree_of db.docs id) rev ≡ false → db.update_seq < most
    → after_edit db id parent deleted body o ≡ with_tree db id (merged (tree_of db.docs id) revs (content_of deleted body) o)
after_edit-changed db law id parent deleted body o before revs rev e absent room =
    let d = edit_document id (rev, before) deleted body in
    ap (after_edited db id deleted body o) e.told
    ∙ after_put-changed db d o (db.update_seq + 1) (put_answer-edit db law id rev before deleted body absent room)
    ∙ ap (λ (rs : List RevId). with_tree db id (merged (tree_of db.docs id) rs (content_of deleted body) o)) (sym e.whole)
