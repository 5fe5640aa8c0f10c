use Rattle.proof_prelude.proofs.{◌≡◌, ◌++◌, ◌+◌, drop, refl, subst, sym, ap, ◌∙◌, arith}
use Rattle.couch_base.specs.{IsParcel, fetched, gone_of, open_revs, IsParcel-open_revs}
use Rattle.couch_base.proofs.{fetched_next, gone_next, end_of}
use Rattle.couch_base.proofs.database.Database.open_asked.Goals as goal

pub loop-wanted-preserved : goal.loop-wanted-preserved
loop-wanted-preserved c =
    let ds = c.args.self.now.docs in
    let ws = c.docs-wanted-items.result.now in
    let i = c.loop-wanted.wanted-index in
    let w = c.wanted-item.result in
    record {
      made = c.in_ok-fetch.ensures.made;
      docs =
          ap (λ l. l ++ fetched ds (drop (i + 1) ws)) c.in_ok-fetch.ensures.docs
          ∙ fetched_next ds c.loop-wanted.docs.items (fetched ds ws) ws i w c.loop-wanted-test.true c.wanted-item.is c.loop-wanted.invariant.docs;
      gone =
          ap (λ l. l ++ gone_of ds (drop (i + 1) ws)) c.in_ok-fetch.ensures.gone
          ∙ gone_next ds c.loop-wanted.gone.items (gone_of ds ws) ws i w c.loop-wanted-test.true c.wanted-item.is c.loop-wanted.invariant.gone;
    }

pub with_prepared-requires-clause-parcel : goal.with_prepared-requires-clause-parcel
with_prepared-requires-clause-parcel c =
    let ds = c.args.self.now.docs in
    let ws = c.docs-wanted-items in
    let i = c.loop-wanted.wanted-index in
    let docs = end_of (fetched ds) refl c.loop-wanted.docs.items (fetched ds ws.result.now) ws.result.now i (omega arith) c.loop-wanted.invariant.docs ∙ ap (fetched ds) ws.ensures.value in
    let gone = end_of (gone_of ds) refl c.loop-wanted.gone.items (gone_of ds ws.result.now) ws.result.now i (omega arith) c.loop-wanted.invariant.gone ∙ ap (gone_of ds) ws.ensures.value in
    let same : record { asked = c.args.asked; docs = c.loop-wanted.docs.items; gone = c.loop-wanted.gone.items } ≡ open_revs c.args.self.now c.args.asked =
    λ j. record { asked = c.args.asked; docs = docs j; gone = gone j } in
    subst IsParcel (sym same) (IsParcel-open_revs c.args.self.now c.args.asked c.law.ensures c.docs-wanted-items.ensures.asked)
