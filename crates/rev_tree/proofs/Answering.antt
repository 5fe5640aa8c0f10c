-- The result of a merge, from the edges and the content of the head.
use Rattle.proof_prelude.proofs.{◌≡◌, ◌&&◌, List, [], ◌∷◌, Option, Some, None, Bool, true, false, is_some, Result, Ok, Err, sym, ap, ◌∙◌, subst, refl, false≢true, and_parts, and_from, and-false, list_all, get, same_Some}
use Rattle.std.specs.Cmp.{both_ways}
use Rattle.rev_core.specs.{RevId, edges_of, head_of}
use Rattle.rev_tree.specs.{TreeValue, IsTree, has, has_edge, contradiction_at, first_contradiction, is_same, at_head, answer_of, merge_answer, merged, ContentValue, both_none, agrees, same_from_merged, Merged, Contradiction, Origin}
use Rattle.rev_tree.specs.declared.fault.Merged.TheVariants.{Same, Changed}

-- a known parent that contradicts nothing is in the tree
given_parent : (t : TreeValue) → IsTree t → (r s : RevId) (o : Option RevId) → get t.parents r ≡ o → contradiction_at r s o ≡ None → is_some o ≡ true → has t s ≡ true
given_parent t tree r s None is none some = absurd (false≢true some)
given_parent t tree r s (Some k) is none some = subst (λ q. has t q ≡ true) (agrees r k s none) (tree.parent r k is)

-- if each edge is known, all revisions but the head are in the tree
known_rest : (t : TreeValue) → IsTree t → (r : RevId) (rest : List RevId) → first_contradiction t.parents (edges_of (r ∷ rest)) ≡ None → list_all (has_edge t) (edges_of (r ∷ rest)) ≡ true → list_all (has t) rest ≡ true
known_rest t tree r [] none all = refl
known_rest t tree r (s ∷ rest) none all =
    let apart = both_none (contradiction_at r s (get t.parents r)) (first_contradiction t.parents (edges_of (s ∷ rest))) none in
    let both = and_parts _ _ all in
    and_from _ _ (given_parent t tree r s (get t.parents r) refl apart.0 both.0) (known_rest t tree s rest apart.1 both.1)

-- the merge changes nothing exactly if all edges are known and the head has a content
pub is_same-edges : (t : TreeValue) → IsTree t → (revs : List RevId) (head : RevId) → head_of revs ≡ Some head → first_contradiction t.parents (edges_of revs) ≡ None
    → is_same t revs ≡ (list_all (has_edge t) (edges_of revs) && is_some (get t.contents head))
is_same-edges t tree [] head h none = absurd (false≢true (ap is_some h))
is_same-edges t tree (r ∷ rest) head h none =
    both_ways _ _
    (λ same.
    let outer = and_parts _ _ same in
    and_from _ _ (and_parts _ _ outer.0).1 (ap (λ q. is_some (get t.contents q)) (sym (same_Some r head h)) ∙ (and_parts _ _ outer.1).0))
    (λ known.
    let both = and_parts _ _ known in
    let content = ap (λ q. is_some (get t.contents q)) (same_Some r head h) ∙ both.1 in
    and_from _ _ (and_from _ _ (and_from _ _ (tree.content r content) (known_rest t tree r rest none both.0)) both.0) (and_from _ _ content refl))

-- ---- the result

answer_of_none : (t : TreeValue) (revs : List RevId) (b : Bool) → first_contradiction t.parents (edges_of revs) ≡ None → is_same t revs ≡ b → merge_answer t revs ≡ answer_of None b
answer_of_none t revs b none same = ap (λ o. answer_of o (is_same t revs)) none ∙ ap (answer_of None) same

pub answer_known : (t : TreeValue) → IsTree t → (revs : List RevId) (head : RevId) (b : Bool) → head_of revs ≡ Some head → first_contradiction t.parents (edges_of revs) ≡ None → list_all (has_edge t) (edges_of revs) ≡ true → is_some (get t.contents head) ≡ b
    → merge_answer t revs ≡ answer_of None b
answer_known t tree revs head b is none all content =
    answer_of_none t revs b none (is_same-edges t tree revs head is none ∙ ap (λ e. e && is_some (get t.contents head)) all ∙ content)

pub answer_missed : (t : TreeValue) (revs : List RevId) → first_contradiction t.parents (edges_of revs) ≡ None → list_all (has_edge t) (edges_of revs) ≡ false → merge_answer t revs ≡ answer_of None false
answer_missed t revs none missed =
    let head : Bool = list_all (λ (e : RevId × Unit {0}). is_some (get t.contents e.0)) (at_head revs tt) in
    answer_of_none t revs false none (ap (λ e. (list_all (has t) revs && e) && head) missed ∙ ap (λ b. b && head) (and-false (list_all (has t) revs)))

abbrev is_told : Result Merged Contradiction → Bool
is_told (Ok m) = true
is_told (Err e) = false

abbrev pub is_told_same : Result Merged Contradiction → Bool
is_told_same (Ok Same) = true
is_told_same (Ok Changed) = false
is_told_same (Err e) = false

-- if the result is Ok, no edge contradicts
pub none_from_answer : (t : TreeValue) (revs : List RevId) (m : Merged) → merge_answer t revs ≡ Ok m → first_contradiction t.parents (edges_of revs) ≡ None
none_from_answer t revs m = by (first_contradiction t.parents (edges_of revs)) (is_same t revs)
  where
    by : (o : Option Contradiction) (b : Bool) → answer_of o b ≡ Ok m → o ≡ None
    by None b h = refl
    by (Some c) b h = absurd (false≢true (ap is_told h))

pub same_from_answer : (t : TreeValue) (revs : List RevId) → merge_answer t revs ≡ Ok Same → is_same t revs ≡ true
same_from_answer t revs = by (first_contradiction t.parents (edges_of revs)) (is_same t revs)
  where
    by : (o : Option Contradiction) (b : Bool) → answer_of o b ≡ Ok Same → b ≡ true
    by None true h = refl
    by None false h = absurd (false≢true (ap is_told_same h))
    by (Some c) b h = absurd (false≢true (ap is_told h))

-- if the result is `Changed`, the tree changes
pub changed_from_answer : (t : TreeValue) (revs : List RevId) (b : ContentValue) (o : Origin) → merge_answer t revs ≡ Ok Changed → merged t revs b o ≡ t → ⊥
changed_from_answer t revs b o h stays = by (first_contradiction t.parents (edges_of revs)) h
  where
    by : (c : Option Contradiction) → answer_of c (is_same t revs) ≡ Ok Changed → ⊥
    by None k = false≢true (sym (ap is_told_same k) ∙ ap (λ x. is_told_same (answer_of None x)) (same_from_merged t revs b o stays))
    by (Some c) k = false≢true (ap is_told k)
