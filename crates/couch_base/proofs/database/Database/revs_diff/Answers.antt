use Rattle.proof_prelude.proofs.{◌≡◌, refl, subst, sym, ap, ◌∙◌, arith}
use Rattle.couch_base.specs.{IsAsked, wanted, revs_diff, IsAsked-revs_diff}
use Rattle.couch_base.proofs.{end_of}
use Rattle.couch_base.proofs.database.Database.revs_diff.Goals as goal

pub new-requires : goal.new-requires
new-requires c =
    let ds = c.args.self.now.docs in
    let rows = c.rows-row-items in
    let docs = end_of (wanted ds) refl c.loop-row.docs.items (wanted ds rows.result.now) rows.result.now c.loop-row.row-index (omega arith) c.loop-row.invariant ∙ ap (wanted ds) rows.ensures.value in
    let same : record { lo = c.lo.result; hi = c.hi.result; docs = c.loop-row.docs.items } ≡ revs_diff c.args.self.now c.args.window.now =
    λ i. record { lo = c.lo.ensures.value i; hi = c.hi.ensures.value i; docs = docs i } in
    subst IsAsked (sym same) (IsAsked-revs_diff c.args.self.now c.args.window.now c.lo.ensures.window)
