use Rattle.proof_prelude.proofs.{Some, subst}
use Rattle.couch_base.specs.{TableValue, IsPlace}
use Rattle.couch_base.proofs.{placed}
use Rattle.couch_base.proofs.table.Table.find.Goals as goal

pub returns-in-Some : goal.returns-in-Some
returns-in-Some c =
    let e = c.in-Some.ensures in
    subst (λ (v : TableValue). IsPlace v.entries c.args.id.now (Some c.in-Some.place)) c.self.view_is (placed c.self.inside.docs.entries c.args.id.now c.in-Some.place c.in-Some._id.now c.in-Some._kept.now e.index e.entry e.value)
