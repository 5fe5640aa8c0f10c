use Rattle.proof_prelude.proofs.{◌≡◌, length, nat_lt, ap, ◌∙◌, arith}
use Rattle.couch_base.specs.{TableValue, live}
use Rattle.couch_base.proofs.{live_count}
use Rattle.couch_base.proofs.table.Table.has_dead_rows.Goals as goal

pub returns : goal.returns
returns c =
    let t : TableValue = record { entries = c.self.inside.docs.entries; rows = c.self.inside.index.items; last = c.self.inside.last } in
    let docs : c.len.result ≡ length t.entries = c.len.ensures.len in
    let rows : c.len-2.result ≡ length c.self.inside.index.items = grind (arith, c.len-2.ensures) in
    (λ i. nat_lt ((docs ∙ live_count t c.self.invariant c.len.ensures.unique) i) (rows i))
    ∙ ap (λ (v : TableValue). nat_lt (length (live v.entries v.rows)) (length v.rows)) c.self.view_is
