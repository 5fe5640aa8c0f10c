-- One step of a traversal, from a node to its parent.
use Rattle.proof_prelude.proofs.{◌≡◌, ℕ, zero, suc, ◌<◌, List, [], ◌∷◌, length, slice_get, Some, None, true, IfSome, sym, ap, ◌∙◌, subst, refl, arith, option_map_or, FinMap, get}
use Rattle.rev_core.specs.{RevId, rev_cmp}
use Rattle.rev_tree.specs.{TreeValue, IsTree, has, ancestors, walk, ancestors_step, ancestors_last, revs_in, rev_at, place_of, tree_of, IsLinked, ancestors_at, NodeValue}
use Rattle.rev_tree.proofs.Places.{node_at, rev_at_place, place_known}
use Rattle.rev_tree.proofs.Linking.{length-revs_in}
use Rattle.rev_tree.proofs.Lookups.{Shows, shows_itself, has_is, parent_is}

-- the generation at an index
abbrev pub generation_at : List NodeValue → ℕ → ℕ
generation_at nodes i = option_map_or (λ (r : RevId). r.generation) (slice_get (revs_in nodes) i) 0

walk_first : (m : FinMap rev_cmp RevId) (n : ℕ) (r : RevId) → slice_get (walk m n r) 0 ≡ Some r
walk_first m zero r = refl
walk_first m (suc n) r = refl

-- a step from a node to its parent at p
pub record IsStep (nodes : List NodeValue) (i p : ℕ) (n : NodeValue) : Type 0 where
  pub within : p < length nodes
  pub falls : generation_at nodes p < generation_at nodes i
  pub walk : ancestors_at nodes i ≡ n.rev ∷ ancestors_at nodes p

there : {X : Type 0} (xs : List X) (i : ℕ) → i < length xs → (x : X) × (slice_get xs i ≡ Some x)
there [] i h = absurd (omega arith)
there (x ∷ xs) zero h = (x, refl)
there (x ∷ xs) (suc i) h = there xs i (omega arith)

module _ (nodes : List NodeValue) (linked : IsLinked nodes) (i : ℕ) (n : NodeValue) (at : slice_get nodes i ≡ Some n) where
  pub ancestors_here : ancestors_at nodes i ≡ ancestors (tree_of nodes) n.rev
  ancestors_here = ap (λ o. option_map_or (ancestors (tree_of nodes)) o []) (rev_at_place nodes i n at)

  known_parent : get (tree_of nodes).parents n.rev ≡ rev_at (revs_in nodes) n.parent
  known_parent = parent_is nodes (tree_of nodes) n.rev (Some n) linked (shows_itself nodes) (node_at nodes linked.once i n at)

  pub step : IsTree (tree_of nodes) → (p : ℕ) → n.parent ≡ Some p → IsStep nodes i p n
  step tree p is =
      let low : p < length nodes = subst (λ o. IfSome o (λ k. k < length nodes)) is (linked.each n.rev n (node_at nodes linked.once i n at)).parent in
      let q = there (revs_in nodes) p (omega (arith, length-revs_in nodes)) in
      let edge : get (tree_of nodes).parents n.rev ≡ Some q.0 = known_parent ∙ ap (rev_at (revs_in nodes)) is ∙ q.1 in
      let lower = tree.falls n.rev q.0 edge in
      let here = ap (λ o. option_map_or (λ (r : RevId). r.generation) o 0) (rev_at_place nodes i n at) in
      let below = ap (λ o. option_map_or (λ (r : RevId). r.generation) o 0) q.1 in
      record {
        within = low;
        falls = omega (arith, lower, here, below);
        walk =
            ancestors_here ∙ ancestors_step (tree_of nodes) tree n.rev q.0 edge
            ∙ ap (λ l. n.rev ∷ l) (sym (ap (λ o. option_map_or (ancestors (tree_of nodes)) o []) q.1));
      }

  pub last : n.parent ≡ None → ancestors_at nodes i ≡ n.rev ∷ []
  last is = ancestors_here ∙ ancestors_last (tree_of nodes) n.rev (known_parent ∙ ap (rev_at (revs_in nodes)) is)

  -- the revision itself is the first ancestor
  pub first_there : slice_get (ancestors_at nodes i) 0 ≡ Some n.rev
  first_there = ap (λ l. slice_get l 0) ancestors_here ∙ walk_first (tree_of nodes).parents n.rev.generation n.rev

-- what follows from the index of a revision
pub record IsPlaceOf (nodes : List NodeValue) (t : TreeValue) (q : RevId) (i : ℕ) : Type 0 where
  pub within : i < length nodes
  pub known : has t q ≡ true
  pub walk : ancestors_at nodes i ≡ ancestors t q

pub place_is : (nodes : List NodeValue) (t : TreeValue) (q : RevId) (i : ℕ) → IsLinked nodes → Shows nodes t → place_of nodes q ≡ Some i → IsPlaceOf nodes t q i
place_is nodes t q i linked view found =
    let f = place_known nodes q i found in
    record {
      within = f.within;
      known = has_is nodes t q (Some f.node) linked view f.found;
      walk = ancestors_here nodes linked i f.node f.at ∙ ap (ancestors (tree_of nodes)) f.rev ∙ ap (λ m. walk m q.generation q) view.parents;
    }
