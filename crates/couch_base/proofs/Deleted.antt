-- If the winner is deleted, all leaves are.
use Rattle.couch_base.specs.{both_hold}
use Rattle.proof_prelude.proofs.{◌≡◌, true, false, T, ◌&&◌, List, [], ◌∷◌, map, filter, Some, ap, subst, ◌∙◌, refl, list_all, is_lt, bool_cmp, ordering_then, from_entries, entries, entries_sorted, is_sorted, below_all, same_Some, none-some}
use Rattle.std.specs.FinMap as finmap
use Rattle.rev_core.specs.{RevId, rev_cmp}
use Rattle.rev_tree.specs.{marked, first_of, TreeValue, is_deleted, is_leaf, leaf_cmp, leaves}

-- a leaf after a deleted leaf is deleted
behind : (t : TreeValue) (w r : RevId) → is_deleted t w ≡ true → T (is_lt (leaf_cmp t w r)) → is_deleted t r ≡ true
behind t w r dead later =
    elim (is_deleted t r) as (λ b. T (is_lt (ordering_then (bool_cmp true b) (rev_cmp r w))) → b ≡ true) [
      | true ↦ λ _. refl
      | false ↦ λ h. absurd h
    ] (subst (λ b. T (is_lt (ordering_then (bool_cmp b (is_deleted t r)) (rev_cmp r w)))) dead later)

all_behind : (t : TreeValue) (w : RevId) (es : List (RevId × Unit {0})) → is_deleted t w ≡ true → T (below_all (leaf_cmp t) w es) → list_all (is_deleted t) (map (λ e. e.0) es) ≡ true
all_behind t w [] dead h = refl
all_behind t w (e ∷ es) dead h =
    let parts = both_hold (is_lt (leaf_cmp t w e.0)) (below_all (leaf_cmp t) w es) h in
    ap (λ b. b && list_all (is_deleted t) (map (λ e. e.0) es)) (behind t w e.0 dead parts.0) ∙ all_behind t w es dead parts.1

all_sorted : (t : TreeValue) (es : List (RevId × Unit {0})) (w : RevId) → T (is_sorted (leaf_cmp t) es) → first_of (map (λ e. e.0) es) ≡ Some w → list_all (is_deleted t) (map (λ e. e.0) es) ≡ is_deleted t w
all_sorted t [] w sorted first = absurd (none-some w first)
all_sorted t (e ∷ es) w sorted first =
    let parts = both_hold (below_all (leaf_cmp t) e.0 es) (is_sorted (leaf_cmp t) es) sorted in
    elim (is_deleted t e.0) as (λ b. is_deleted t e.0 ≡ b → (b && list_all (is_deleted t) (map (λ e. e.0) es)) ≡ b) [
      | true ↦ λ dead. all_behind t e.0 es dead parts.0
      | false ↦ λ _. refl
    ] refl
    ∙ ap (is_deleted t) (same_Some e.0 w first)

-- all leaves are deleted exactly if the winner is
pub all_deleted : (t : TreeValue) (w : RevId) → first_of (leaves t) ≡ Some w → list_all (is_deleted t) (leaves t) ≡ is_deleted t w
all_deleted t w first =
    let m = from_entries {R = leaf_cmp t} (marked (filter (is_leaf t) (finmap.keys t.origins))) in
    all_sorted t (entries m) w (entries_sorted m) first
