use Rattle.proof_prelude.proofs.{Some, subst, sym, none-some}
use Rattle.couch_base.specs.{id_is, Id, TableValue, IsPlace}
use Rattle.couch_base.proofs.table.Table.find_by_hint.Goals as goal

pub returns-then-eq-clause-place : goal.returns-then-eq-clause-place
returns-then-eq-clause-place c =
    let at = c.in-Some.ensures in
    let same = id_is c.in-Some.there.now c.args.id.now (sym c.if-eq.ensures) in
    subst (λ (v : TableValue). IsPlace v.entries c.args.id.now (Some c.args.near)) c.self.view_is
    (subst (λ (q : Id). IsPlace c.self.inside.docs.entries q (Some c.args.near)) same (record {
      there = (c.in-Some._kept.now, sym at.entry, at.value);
      absent = λ none. absurd (none-some c.args.near (sym none));
    }))
