-- Leaves of a tree are in it.
use Rattle.proof_prelude.proofs.{◌≡◌, true, not, sym, ◌∙◌, list_all, and_parts}
use Rattle.rev_tree.specs.{TreeValue, has, is_leaf, leaves, missing, any_filter, is_among-leaves}
use Rattle.couch_base.specs.{all_members}

-- the leaves that another tree lacks are in the tree
pub missing_known : (s t : TreeValue) → list_all (has s) (missing t (leaves s)) ≡ true
missing_known s t =
    all_members (has s) (missing t (leaves s))
    (λ r m. (and_parts _ _ (sym (is_among-leaves s r) ∙ (and_parts _ _ (sym (any_filter (λ q. not (has t q)) r (leaves s)) ∙ m)).0)).0)

-- all of them are leaves
pub leaves_leaves : (s : TreeValue) → list_all (is_leaf s) (leaves s) ≡ true
leaves_leaves s = all_members (is_leaf s) (leaves s) (λ r m. sym (is_among-leaves s r) ∙ m)
