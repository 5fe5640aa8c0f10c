use Rattle.proof_prelude.proofs.{◌≡◌, true, sym, ap, ◌∙◌, and_parts, list_all}
use Rattle.rev_tree.specs.{TreeValue, has, leaves, is_among-leaves}
use Rattle.couch_base.specs.{all_members}
use Rattle.read_commands.proofs.show.print.Goals as goal

-- the leaves of a tree are in it
all_known : (t : TreeValue) → list_all (has t) (leaves t) ≡ true
all_known t = all_members (has t) (leaves t) (λ r m. (and_parts _ _ (sym (is_among-leaves t r) ∙ m)).0)

pub push_leaves-requires : goal.push_leaves-requires
push_leaves-requires c =
    let t = c.args.tree.now in
    ap (list_all (has t)) (c.as_slice-2.ensures ∙ c.in_ok-leaves.ensures) ∙ all_known t
