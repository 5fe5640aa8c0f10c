use Rattle.proof_prelude.proofs.{◌-◌, ◌∙◌, ap, arith, get_or_default, rules, sym}
use Rattle.std.proofs.Math.Seq.{map-set_same}
use Rattle.diagrams.specs.declared.rows.Row.{Row}
use Rattle.diagrams.specs.Rows.{edges_above}
use Rattle.diagrams.proofs.OpenRows.{edges_count, edges_next}
use Rattle.diagrams.proofs.rows.set_edges.Goals as goal

pub loop-i-preserved : goal.loop-i-preserved
loop-i-preserved c =
    let row = c.index_mut.result.now in
    let has = c.loop-i.invariant in
    let count = edges_count c.args.rows.now.items c.loop-i.rows.items c.loop-i.i c.loop-i.edges.items has in
    let is = c.index_mut.ensures.value in
    edges_next c.args.rows.now.items c.loop-i.rows.items c.loop-i.i (c.loop-i.i - 1) c.loop-i.edges.items c.move_up.new.edges.items _ row
    (omega arith) has (ap (λ r. r.hang) is) (ap (λ r. r.parent) is) (ap (λ r. r.first) is) (search rules)
    (c.in_ok-move_up.ensures ∙ ap (λ (r : Row). edges_above c.loop-i.edges.items r.hang)
    (c.index.ensures ∙ get_or_default c.loop-i.rows.items (c.loop-i.i - 1) _ _ (omega (arith, has.few, count)) ∙ sym is))

pub returns-in_err-move_up-clause-hangs : goal.returns-in_err-move_up-clause-hangs
returns-in_err-move_up-clause-hangs c =
    map-set_same (λ r. r.hang) c.loop-i.rows.items (c.loop-i.i - 1) _ c.index_mut.result.now (ap (λ r. r.hang) c.index_mut.ensures.value) ∙ c.loop-i.invariant.hangs

pub returns-in_err-move_up-clause-parents : goal.returns-in_err-move_up-clause-parents
returns-in_err-move_up-clause-parents c =
    map-set_same (λ r. r.parent) c.loop-i.rows.items (c.loop-i.i - 1) _ c.index_mut.result.now (ap (λ r. r.parent) c.index_mut.ensures.value) ∙ c.loop-i.invariant.parents

pub returns-in_err-move_up-clause-firsts : goal.returns-in_err-move_up-clause-firsts
returns-in_err-move_up-clause-firsts c =
    map-set_same (λ r. r.first) c.loop-i.rows.items (c.loop-i.i - 1) _ c.index_mut.result.now (ap (λ r. r.first) c.index_mut.ensures.value) ∙ c.loop-i.invariant.firsts
