use Rattle.proof_prelude.proofs.{◌≡◌, sym, subst, ◌∙◌}
use Rattle.couch_base.specs.{TableValue, IsKept}
use Rattle.couch_base.proofs.{cloned_same}
use Rattle.couch_base.proofs.table.Table.copy.Goals as goal

same : (c : goal.In_ok-index) → record { entries = c.in_ok-docs.docs.entries; rows = c.in_ok-index.index.items; last = c.self.inside.last } ≡ c.args.self.now
same c =
    let index_is = cloned_same c.self.inside.index.items c.in_ok-index.index.items c.in_ok-index.ensures.cases.0 in
    (λ i. let v : TableValue = record { entries = c.in_ok-docs.ensures.copied i; rows = index_is i; last = c.self.inside.last } in v) ∙ c.self.view_is

pub invariant_of-result : goal.invariant_of-result
invariant_of-result c = subst IsKept (sym (same c)) (subst IsKept c.self.view_is c.self.invariant)

pub returns : goal.returns
returns c = same c
