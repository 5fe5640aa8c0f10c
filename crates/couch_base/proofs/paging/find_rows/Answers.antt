use Rattle.proof_prelude.proofs.{◌≡◌, ℕ, List, [], ◌∷◌, ◌++◌, ◌+◌, take, list_any-IsPermutation, dedup_is, none-some, same_Some, sym, ap, subst, ◌∙◌, arith, take_more, take_all}
use Rattle.couch_base.specs.{Id}
use Rattle.couch_base.proofs.{AreWanted, wanted_next, wanted_same, wanted_sorted}
use Rattle.couch_base.proofs.paging.find_rows.Goals as goal
use Rattle.couch_base.proofs.paging.find_rows.Goals.{in-Some+then-row-since+then-row-last+in_ok-push, in-Some+else-row-since, else-row-since-via-then-row-since+else-row-last, else-row-since-via-else-row-since, in_default}

pub loop-id-preserved : goal.loop-id-preserved
loop-id-preserved c =
    let t = c.args.table.now in
    let ids = c.args.ids.now in
    let l = c.loop-id in
    let id = c.id-item.result in
    let since = c.args.since in
    let last = c.args.last in
    let more : take (l.id-index + 1) ids ≡ take l.id-index ids ++ id ∷ [] = take_more ids l.id-index id c.loop-id-test.true ∙ ap (λ (x : Id). take l.id-index ids ++ x ∷ []) (sym c.id-item.is) in
    elim c.match-live_row.branch [
      | in-Some+then-row-since+then-row-last+in_ok-push w ↦
          rw (w.rows-is, more, w.in_ok-push.ensures.items)
          (wanted_next t since last (take l.id-index ids) id l.rows.items w.in-Some.row l.invariant w.in-Some.ensures.row.0 w.in-Some.ensures.row.1 (omega (arith, w.if-row-since.true)) (omega (arith, w.if-row-last.true)) (λ e m its. same_Some _ _ (w.in-Some.ensures.only e m its)))
      | in-Some+else-row-since w ↦
          rw (w.rows-is, more)
          (wanted_same t since last (take l.id-index ids) id l.rows.items l.invariant (λ e m its above upto.
          let same = same_Some _ _ (w.in-Some.ensures.only e m its) in
          let seq : w.in-Some.row.0 ≡ e.0 = ap (λ (x : ℕ × ℕ). x.0) same in
          elim w.else-row-since.branch [
            | else-row-since-via-then-row-since+else-row-last v ↦ absurd (omega (arith, v.if-row-last.false, seq, upto))
            | else-row-since-via-else-row-since v ↦ absurd (omega (arith, v.if-row-since.false, seq, above))
          ]))
      | in_default w ↦
          rw (w.rows-is, more)
          (wanted_same t since last (take l.id-index ids) id l.rows.items l.invariant (λ e m its above upto. none-some e (w.in_default.ensures.only e m its)))
    ]

pub returns : goal.returns
returns c =
    let t = c.args.table.now in
    let ids = c.args.ids.now in
    let l = c.loop-id in
    let all : take l.id-index ids ≡ ids = take_all l.id-index ids (omega (arith, c.loop-id-test.false)) in
    dedup_is _ _ _ c.dedup.ensures.filtered
    ∙ wanted_sorted t c.args.since c.args.last ids l.rows.items c.sort_unstable.new.self.items c.last-kept.ensures.kept.rows.order (subst (λ (x : List Id). AreWanted t c.args.since c.args.last x l.rows.items) all l.invariant)
    (λ p. list_any-IsPermutation p _ _ c.sort_unstable.ensures.permutation) c.sort_unstable.ensures.sorted
