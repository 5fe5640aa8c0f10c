use Rattle.proof_prelude.proofs.{◌≡◌, ℕ, suc, ◌-◌, List, of_calls, rules, take, length, get_or, nat_le, true, false, sym, subst, ◌∙◌, ◌≤◌, arith, always_returns_same, IsPartitionPoint, IsPartitionedBy-leb}
use Rattle.couch_base.specs.{InOrder, page_end, rows_within}
use Rattle.couch_base.proofs.{order_above, order_by, page_few, page_full, upto, upto_from}
use Rattle.couch_base.proofs.paging.known_end.Goals as goal

pub returns-then-due-limit-clause-rows : goal.returns-then-due-limit-clause-rows
returns-then-due-limit-clause-rows c =
    let t = c.args.table.now in
    let rows : List (ℕ × ℕ) = c.rows_above-above.result.now in
    let is = c.rows_above-above.ensures.rows in
    let goal = c.args.goal in
    let due = c.partition_point-due.result in
    let order : InOrder rows = subst InOrder (sym is) (order_above c.args.since t.rows c.rows_above-above.ensures.kept.rows.order) in
    let point : IsPartitionPoint (λ e. nat_le e.0 goal ≡ true) (λ e. nat_le e.0 goal ≡ false) rows due = c.partition_point-due.ensures.partitioned (λ e. nat_le e.0 goal) (always_returns_same _ _ _ (λ a r f k. search (rules, of_calls))) (IsPartitionedBy-leb (λ e. e.0) rows goal (order_by rows order)) in
    (page_few t c.args.since goal c.args.limit due (subst (λ l. upto goal l ≡ take due l) is (upto_from goal rows due point)) (omega (arith, c.if-due-limit.true))).0

pub returns-then-due-limit-clause-end : goal.returns-then-due-limit-clause-end
returns-then-due-limit-clause-end c =
    let t = c.args.table.now in
    let rows : List (ℕ × ℕ) = c.rows_above-above.result.now in
    let is = c.rows_above-above.ensures.rows in
    let goal = c.args.goal in
    let due = c.partition_point-due.result in
    let order : InOrder rows = subst InOrder (sym is) (order_above c.args.since t.rows c.rows_above-above.ensures.kept.rows.order) in
    let point : IsPartitionPoint (λ e. nat_le e.0 goal ≡ true) (λ e. nat_le e.0 goal ≡ false) rows due = c.partition_point-due.ensures.partitioned (λ e. nat_le e.0 goal) (always_returns_same _ _ _ (λ a r f k. search (rules, of_calls))) (IsPartitionedBy-leb (λ e. e.0) rows goal (order_by rows order)) in
    (page_few t c.args.since goal c.args.limit due (subst (λ l. upto goal l ≡ take due l) is (upto_from goal rows due point)) (omega (arith, c.if-due-limit.true))).1

pub returns-clause-rows : goal.returns-clause-rows
returns-clause-rows c =
    let t = c.args.table.now in
    let rows : List (ℕ × ℕ) = c.rows_above-above.result.now in
    let is = c.rows_above-above.ensures.rows in
    let goal = c.args.goal in
    let limit = c.args.limit in
    let due = c.partition_point-due.result in
    let order : InOrder rows = subst InOrder (sym is) (order_above c.args.since t.rows c.rows_above-above.ensures.kept.rows.order) in
    let point : IsPartitionPoint (λ e. nat_le e.0 goal ≡ true) (λ e. nat_le e.0 goal ≡ false) rows due = c.partition_point-due.ensures.partitioned (λ e. nat_le e.0 goal) (always_returns_same _ _ _ (λ a r f k. search (rules, of_calls))) (IsPartitionedBy-leb (λ e. e.0) rows goal (order_by rows order)) in
    let n = limit - 1 in
    let more : limit ≡ suc n = omega (arith, c.if-limit-count.false) in
    let at = page_full t c.args.since goal n due (0, 0) c.rows_above-above.ensures.kept.rows.order (sym c.has_dead_rows.ensures ∙ c.if-has_dead_rows.false)
    (subst (λ l. upto goal l ≡ take due l) is (upto_from goal rows due point)) (omega (arith, more, c.if-due-limit.false)) (subst (λ l. due ≤ length l) is c.partition_point-due.ensures.bound) in
    subst (λ (l : ℕ). take l (rows_within t c.args.since goal) ≡ rows_within t c.args.since (get_or rows n (0, 0)).0) (sym more)
    (subst (λ (l : List (ℕ × ℕ)). take (suc n) (rows_within t c.args.since goal) ≡ rows_within t c.args.since (get_or l n (0, 0)).0) (sym is) at.0)

pub returns-clause-end : goal.returns-clause-end
returns-clause-end c =
    let t = c.args.table.now in
    let rows : List (ℕ × ℕ) = c.rows_above-above.result.now in
    let is = c.rows_above-above.ensures.rows in
    let goal = c.args.goal in
    let limit = c.args.limit in
    let due = c.partition_point-due.result in
    let order : InOrder rows = subst InOrder (sym is) (order_above c.args.since t.rows c.rows_above-above.ensures.kept.rows.order) in
    let point : IsPartitionPoint (λ e. nat_le e.0 goal ≡ true) (λ e. nat_le e.0 goal ≡ false) rows due = c.partition_point-due.ensures.partitioned (λ e. nat_le e.0 goal) (always_returns_same _ _ _ (λ a r f k. search (rules, of_calls))) (IsPartitionedBy-leb (λ e. e.0) rows goal (order_by rows order)) in
    let n = limit - 1 in
    let more : limit ≡ suc n = omega (arith, c.if-limit-count.false) in
    let at = page_full t c.args.since goal n due (0, 0) c.rows_above-above.ensures.kept.rows.order (sym c.has_dead_rows.ensures ∙ c.if-has_dead_rows.false)
    (subst (λ l. upto goal l ≡ take due l) is (upto_from goal rows due point)) (omega (arith, more, c.if-due-limit.false)) (subst (λ l. due ≤ length l) is c.partition_point-due.ensures.bound) in
    subst (λ (l : ℕ). (get_or rows n (0, 0)).0 ≡ page_end c.args.since goal l (take l (rows_within t c.args.since goal))) (sym more)
    (subst (λ (l : List (ℕ × ℕ)). (get_or l n (0, 0)).0 ≡ page_end c.args.since goal (suc n) (take (suc n) (rows_within t c.args.since goal))) (sym is) at.1)
