use Rattle.proof_prelude.proofs.{◌≡◌, ◌<◌, ℕ, map, drop, slice_index_or, drop_more, sym, ap, ◌∙◌, subst}
use Rattle.couch_base.specs.{live_upto, row_by, InOrder}
use Rattle.couch_base.proofs.{past_goal}
use Rattle.couch_base.specs.declared.feed.Feed.TheInside.{Inside}
use Rattle.couch_base.proofs.feed.Feed.next.Goals as goal

-- the rows from a live row on are all remaining rows
left_at : (s now : Inside) (i : ℕ) → now ≡ s
    → live_upto now.table.now.entries now.goal (drop i now.rest.now) ≡ live_upto now.table.now.entries now.goal now.rest.now
    → live_upto s.table.now.entries s.goal (drop i s.rest.now) ≡ live_upto s.table.now.entries s.goal s.rest.now
left_at s now i same left =
    subst (λ (x : Inside). live_upto x.table.now.entries x.goal (drop i x.rest.now) ≡ live_upto x.table.now.entries x.goal x.rest.now) same left

pub returns-then-seq-self-clause-none : goal.returns-then-seq-self-clause-none
returns-then-seq-self-clause-none c = λ _.
    let s = c.self.inside in
    let l = c.loop-i in
    let es = s.table.now.entries in
    let order : InOrder (drop l.i s.rest.now) = subst (λ (x : Inside). InOrder (drop l.i x.rest.now)) l.invariant.same l.invariant.order in
    let high : s.goal < (slice_index_or s.rest.now l.i (0, 0)).0 =
    subst (λ (x : Inside). x.goal < (slice_index_or x.rest.now l.i (0, 0)).0) l.invariant.same c.if-seq-self.true in
    sym c.self.view_is
    ∙ ap (map (row_by es))
    (sym (left_at s l.self-inside l.i l.invariant.same l.invariant.left)
    ∙ past_goal es s.goal (drop l.i s.rest.now) _ _ order (drop_more s.rest.now l.i (0, 0) c.loop-i-test.true) high)
