use Rattle.proof_prelude.proofs.{◌+◌, Some, sym, ap, ◌∙◌, subst, arith}
use Rattle.rev_tree.specs.{HasRoom, revs_in, unless_among}
use Rattle.rev_tree.proofs.{place_known, rev_at_place, tree_known, room_for, new_counts}
use Rattle.rev_tree.proofs.nodes.Nodes.add.Goals as goal

pub returns-in-Some-clause-gained : goal.returns-in-Some-clause-gained
returns-in-Some-clause-gained c =
    let items = c.args.self.now.items in
    let f = place_known items c.args.rev.now c.in-Some.place (sym c.place_near.ensures.place ∙ c.in-Some.is) in
    record {
      tree = tree_known items c.args.rev.now f.node c.place_near.ensures.linked f.found;
      at = rev_at_place items c.in-Some.place f.node f.at ∙ ap Some f.rev;
      kept = λ i r h. h;
      len = omega arith;
      room = λ n h. room_for c.args.self.now (unless_among (revs_in items) c.args.rev.now + n) n (omega arith) h;
    }

pub push-requires-clause-room : goal.push-requires-clause-room
push-requires-clause-room c =
    let items = c.args.self.now.items in
    subst (HasRoom c.args.self.now) (new_counts items c.args.rev.now (sym c.place_near.ensures.place ∙ c.in-None.is)) c.requires.room
