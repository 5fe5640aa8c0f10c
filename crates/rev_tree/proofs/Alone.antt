-- A tree with one revision.
use Rattle.proof_prelude.proofs.{◌≡◌, ◌<◌, List, [], ◌∷◌, ◌++◌, length, Bool, true, false, ◌||◌, ◌&&◌, cond, Option, Some, None, IfSome, is_some, sym, ap, ◌∙◌, subst, refl, arith, false≢true, eq_by_cmp, get, get-empty, get_or, from_entries, get-from_entries, keys, list_all, list_any, nat_eq, nat_tests, option_map_or, option_or, same_Some, same_map}
use Rattle.std.specs.FinMap.{find}
use Rattle.rev_core.specs.{RevId, edges_of, rev_cmp, rev_cmp_exact, rev_cmp_total}
use Rattle.rev_tree.specs.{ContentValue, IsLinked, IsNode, IsSingle, NodeValue, ancestors_at, ancestors_last, contradiction_at, entry_of, first_contradiction, get-joined, has_edge, joined, merged, no_origin, rev_at, tree_of}
use Rattle.rev_tree.specs.Tree.{is_parent_of}

-- the node of a revision with a content and without ancestors
abbrev pub lone_node : RevId → ContentValue → NodeValue
lone_node r b = record { rev = r; parent = None; content = Some b; has_child = false }

module _ (n : NodeValue) (single : IsSingle n) where
  no_parent : (r : RevId) → get (tree_of (n ∷ [])).parents r ≡ None
  no_parent r = ap (λ o. get (from_entries {R = rev_cmp} (entry_of n.rev (rev_at (n.rev ∷ []) o) ++ [])) r) single.parent ∙ get-empty rev_cmp r

  no_children : (r : RevId) (l : List RevId) → list_any (is_parent_of (tree_of (n ∷ [])) r) l ≡ false
  no_children r [] = refl
  no_children r (c ∷ l) = λ i. option_map_or (eq_by_cmp rev_cmp r) (no_parent c i) false || no_children r l i

  own : IsNode (n ∷ []) n
  own = record {
    parent = subst (λ o. IfSome o (λ i. i < 1)) (sym single.parent) tt;
    child = single.child ∙ sym (no_children n.rev (keys (tree_of (n ∷ [])).parents));
  }

  found : (m : NodeValue) (b : Bool) → cond b (Some n) None ≡ Some m → IsNode (n ∷ []) m
  found m true h = subst (IsNode (n ∷ [])) (same_Some n m h) own
  found m false h = absurd (false≢true (ap is_some h))

  pub IsLinked-single : IsLinked (n ∷ [])
  IsLinked-single = record { once = (refl, tt); each = λ r m h. found m (eq_by_cmp rev_cmp r n.rev) h }

  pub ancestors-single : ancestors_at (n ∷ []) 0 ≡ n.rev ∷ []
  ancestors-single = ancestors_last (tree_of (n ∷ [])) n.rev (no_parent n.rev)

  pub edges-single : (revs : List RevId) → 0 < length revs → nat_eq (length revs) 1 ≡ list_all (has_edge (tree_of (n ∷ []))) (edges_of revs)
  edges-single [] some = absurd (omega arith)
  edges-single (r ∷ []) some = refl
  edges-single (r ∷ (s ∷ revs)) some =
      let several : nat_eq (length (r ∷ (s ∷ revs))) 1 ≡ false = grind (arith, nat_tests) in
      several ∙ sym (ap (λ o. is_some o && list_all (has_edge (tree_of (n ∷ []))) (edges_of (s ∷ revs))) (no_parent r))

  pub agrees-single : (edges : List (RevId × RevId)) → first_contradiction (tree_of (n ∷ [])).parents edges ≡ None
  agrees-single [] = refl
  agrees-single (e ∷ edges) = λ i. option_or (contradiction_at e.0 e.1 (no_parent e.0 i)) (agrees-single edges i)

-- the only element of a list
pub only_item : (revs : List RevId) (r : RevId) → length revs ≡ 1 → r ≡ get_or revs 0 r → revs ≡ r ∷ []
only_item [] r len is = absurd (omega (arith, len))
only_item (x ∷ []) r len is = ap (λ y. y ∷ []) (sym is)
only_item (x ∷ (y ∷ revs)) r len is = absurd (omega (arith, len))

joined-nothing : {X : Type 0} (es : List (RevId × X)) → from_entries {R = rev_cmp} es ≡ joined (from_entries []) es
joined-nothing {X} es = same_map rev_cmp_total rev_cmp_exact _ _ (λ q.
    get-from_entries rev_cmp_total es q
    ∙ sym (get-joined (from_entries []) es q ∙ ap (λ (o : Option X). option_or o (find rev_cmp q es)) (get-empty rev_cmp q)))

-- a merge of a revision without ancestors into an empty tree
pub alone_tree : (nodes : List NodeValue) (revs : List RevId) (r : RevId) (b : ContentValue) → nodes ≡ [] → revs ≡ r ∷ [] → tree_of (lone_node r b ∷ []) ≡ merged (tree_of nodes) revs b no_origin
alone_tree nodes revs r b empty only =
    (λ j. record {
      origins = joined-nothing ((r, no_origin) ∷ []) j;
      parents = joined-nothing [] j;
      contents = joined-nothing ((r, b) ∷ []) j;
    })
    ∙ λ j. merged (tree_of (sym empty j)) (sym only j) b no_origin
