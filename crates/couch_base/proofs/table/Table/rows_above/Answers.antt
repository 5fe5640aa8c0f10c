use Rattle.proof_prelude.proofs.{◌≡◌, ℕ, List, ◌-◌, length, drop, of_calls, rules, sym, ap, ◌∙◌, subst, arith, length-drop, nat_le, true, false, IsPartitionPoint, always_returns_same, IsPartitionedBy-leb, take_all}
use Rattle.couch_base.specs.{TableValue, above, InOrder, IsKept}
use Rattle.couch_base.proofs.{order_by, above_from}
use Rattle.couch_base.proofs.table.Table.rows_above.Goals as goal

pub returns-clause-rows : goal.returns-clause-rows
returns-clause-rows c =
    let since = c.args.since in
    let start = c.partition_point-start.result in
    let rows : List (ℕ × ℕ) = c.deref.result.now in
    let order : InOrder rows = subst InOrder (sym c.deref.ensures.value) c.self.invariant.rows.order in
    let point : IsPartitionPoint (λ e. nat_le e.0 since ≡ true) (λ e. nat_le e.0 since ≡ false) rows start = c.partition_point-start.ensures.partitioned (λ e. nat_le e.0 since) (always_returns_same _ _ _ (λ a r f k. search (rules, of_calls))) (IsPartitionedBy-leb (λ e. e.0) rows since (order_by rows order)) in
    let all : List (ℕ × ℕ) = c.deref-2.result.now in
    let size : length (drop start all) ≡ length all - start = length-drop start all in
    take_all (length all - start) (drop start all) (omega (arith, size))
    ∙ ap (drop start) (c.deref-2.ensures.value ∙ sym c.deref.ensures.value)
    ∙ above_from since rows start point
    ∙ ap (above since) c.deref.ensures.value
    ∙ ap (λ (v : TableValue). above since v.rows) c.self.view_is

pub returns-clause-kept : goal.returns-clause-kept
returns-clause-kept c = subst IsKept c.self.view_is c.self.invariant
