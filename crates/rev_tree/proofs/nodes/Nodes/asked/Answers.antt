use Rattle.proof_prelude.proofs.{◌+◌, ◌++◌, ◌∷◌, [], take, sym, ap, ◌∙◌, subst, arith, take_more, take_all}
use Rattle.rev_tree.proofs.{place_known, place_unknown, item_among, IsAsked, asked_at, asked_nowhere, told_from_asked}
use Rattle.rev_tree.proofs.nodes.Nodes.asked.Goals as goal
use Rattle.rev_tree.proofs.nodes.Nodes.asked.Goals.{in-Some, in_default}

pub index_mut-requires : goal.index_mut-requires
index_mut-requires c =
    let f = place_known c.args.self.now.items c.rev-item.result c.in-Some.place (sym c.place_in.ensures.place ∙ c.in-Some.is) in
    omega (arith, f.within, c.loop-rev.invariant.size, c.loop-rev.told.ok.0)

pub loop-rev-preserved : goal.loop-rev-preserved
loop-rev-preserved c =
    let nodes = c.args.self.now.items in
    let revs = c.args.revs.now in
    let i = c.loop-rev.rev-index in
    let r = c.rev-item.result in
    let more = take_more revs i r c.loop-rev-test.true ∙ ap (λ x. take i revs ++ x ∷ []) (sym c.rev-item.is) in
    let given = item_among revs i r c.loop-rev-test.true c.rev-item.is in
    elim c.match-place_in.branch [
      | in-Some w ↦
          let f = place_known nodes r w.in-Some.place (sym c.place_in.ensures.place ∙ w.in-Some.is) in
          asked_at nodes revs (take i revs) (take (i + 1) revs) c.loop-rev.told.items c.match-place_in.told.items w.in-Some.place f.node r c.place_in.ensures.linked c.loop-rev.invariant f.at f.rev given more (ap (λ v. v.items) w.told-is)
      | in_default w ↦
          asked_nowhere nodes revs (take i revs) (take (i + 1) revs) c.loop-rev.told.items c.match-place_in.told.items r c.loop-rev.invariant
          (place_unknown nodes r (sym c.place_in.ensures.place ∙ w.in_default.is)) more (ap (λ v. v.items) w.told-is)
    ]

pub returns : goal.returns
returns c =
    told_from_asked c.args.self.now.items c.args.revs.now c.loop-rev.told.items
    (subst (λ l. IsAsked c.args.self.now.items c.args.revs.now l c.loop-rev.told.items) (take_all _ _ c.loop-rev-test.false) c.loop-rev.invariant)
