use Rattle.proof_prelude.proofs.{◌≡◌, ◌+◌, ◌++◌, ◌∷◌, [], None, length, take, slice_get, sym, ap, ◌∙◌, subst, rules, arith, length-append, take-append_seam}
use Rattle.rev_tree.specs.{HasRoom, index_for, new_node, no_origin, place_of, revs_in, tree_of, with_rev}
use Rattle.rev_tree.proofs.{AreKept, kept_push, moved_played, slice_get-last, IsAdded, added, length-revs_in, new_counts}
use Rattle.rev_tree.proofs.nodes.Nodes.push.Goals as goal
use Rattle.rev_tree.proofs.nodes.Nodes.push.Goals.{After-index_rest}

adds : (c : After-index_rest) → IsAdded c.self.inside.list.items c.push_node.new.list.items c.args.rev.now
adds c =
    let items = c.self.inside.list.items in
    added items c.push_node.new.list.items c.args.rev.now c.self.invariant.linked
    (subst (λ v. place_of v.items c.args.rev.now ≡ None) (sym c.self.view_is) c.requires.new)
    c.push_node.ensures.items

pub index_rest-requires-clause-begun : goal.index_rest-requires-clause-begun
index_rest-requires-clause-begun c =
    let items = c.self.inside.list.items in
    let n = new_node c.args.rev.now in
    let first = ap (take (length c.as_slice-place.result.now)) (c.deref.ensures.value ∙ c.push_node.ensures.items) ∙ ap (λ l. take (length l) (items ++ n ∷ [])) c.as_slice-place.ensures.value ∙ take-append_seam items (n ∷ []) in
    c.self.invariant.index ∙ ap (λ l. index_for (revs_in l)) (sym first)

pub invariant_of-self : goal.invariant_of-self
invariant_of-self c =
    let items = c.self.inside.list.items in
    record {
      few = search rules;
      index = c.index_rest.ensures.index ∙ ap (λ l. index_for (revs_in l)) c.deref.ensures.value;
      linked = (adds c).linked;
      played =
          moved_played items c.push_node.new.list.items c.self.inside.places.winners c.index_rest.new.places.winners c.self.inside.places.entered c.index_rest.new.places.entered
          (subst (AreKept items) (sym c.push_node.ensures.items) (kept_push items (new_node c.args.rev.now))) c.index_rest.ensures.winners c.index_rest.ensures.entered c.self.invariant.played;
    }

pub returns-clause-gained : goal.returns-clause-gained
returns-clause-gained c =
    let items = c.self.inside.list.items in
    record {
      tree = (adds c).tree ∙ ap (λ v. with_rev (tree_of v.items) c.args.rev.now no_origin) c.self.view_is;
      at =
          ap (λ l. slice_get l (length c.as_slice-place.result.now)) (adds c).revs
          ∙ ap (slice_get (revs_in items ++ c.args.rev.now ∷ [])) (ap length c.as_slice-place.ensures.value ∙ sym (length-revs_in items))
          ∙ slice_get-last (revs_in items) c.args.rev.now;
      kept = λ i r h. (adds c).kept i r (ap (λ v. slice_get (revs_in v.items) i) c.self.view_is ∙ h);
      len = let one = ap length (c.push_node.ensures.items) ∙ length-append items (new_node c.args.rev.now ∷ []) in let old = ap (λ v. length v.items) c.self.view_is in omega (arith, one, old);
      room = λ n h. let more = subst (λ k. HasRoom c.args.self.now (k + n)) (new_counts c.args.self.now.items c.args.rev.now c.requires.new) h in search rules;
    }

pub returns-clause-revs : goal.returns-clause-revs
returns-clause-revs c = (adds c).revs ∙ ap (λ v. revs_in v.items ++ c.args.rev.now ∷ []) c.self.view_is
