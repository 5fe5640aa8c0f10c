use Rattle.proof_prelude.proofs.{◌≡◌, ℕ, List, [], ◌++◌, append-nil, drop, drop_all, map, sym, ap, ◌∙◌, arith}
use Rattle.couch_base.specs.{live, row_by}
use Rattle.couch_base.proofs.{wanted_feed, wanted_rows}
use Rattle.couch_base.proofs.paging.look_up.Goals as goal

pub returns : goal.returns
returns c =
    let t = c.args.table.now in
    let l = c.loop-row in
    let items : List (ℕ × ℕ) = c.deref-row-items.result.now in
    let none : drop l.row-index items ≡ [] = drop_all l.row-index items (omega (arith, c.loop-row-test.false)) in
    let is : items ≡ wanted_rows t c.args.since c.args.last c.args.chosen.now =
    c.deref-row-items.ensures.value ∙ c.in_ok-found.ensures ∙ ap (wanted_rows t c.args.since c.args.last) c.ids.ensures.ids in
    sym (append-nil l.rows.items)
    ∙ ap (λ (x : List (ℕ × ℕ)). l.rows.items ++ map (row_by t.entries) (live t.entries x)) (sym none)
    ∙ l.invariant
    ∙ ap (λ (x : List (ℕ × ℕ)). map (row_by t.entries) (live t.entries x)) is
    ∙ wanted_feed t c.args.since c.args.last c.args.chosen.now
