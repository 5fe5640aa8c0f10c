use Rattle.proof_prelude.proofs.{◌≡◌, ℕ, Some, None, sym, ap, subst, keys_of}
use Rattle.couch_base.specs.{Among, TableValue, id_at, live}
use Rattle.couch_base.proofs.{has_row, id_is_at, no_row, only_row, placed_at}
use Rattle.couch_base.proofs.table.Table.live_row.Goals as goal

pub returns-in-Some-clause-row : goal.returns-in-Some-clause-row
returns-in-Some-clause-row c =
    let t : TableValue = record { entries = c.self.inside.docs.entries; rows = c.self.inside.index.items; last = c.self.inside.last } in
    let e = c.in-Some.ensures in
    let id = c.args.id.now in
    let place = c.in-Some.place in
    let k = c.in-Some.kept.now in
    let at = placed_at t.entries id place c.in-Some._id.now k e.index e.entry in
    subst (λ (v : TableValue). Among (k.seq, place) (live v.entries v.rows) × (id_at (keys_of v.entries) place ≡ id)) c.self.view_is
    (has_row t c.self.invariant c.len-count.ensures.unique place id k at, id_is_at t.entries place id k at)

pub returns-in-Some-clause-only : goal.returns-in-Some-clause-only
returns-in-Some-clause-only c =
    let t : TableValue = record { entries = c.self.inside.docs.entries; rows = c.self.inside.index.items; last = c.self.inside.last } in
    let e = c.in-Some.ensures in
    let id = c.args.id.now in
    let place = c.in-Some.place in
    let k = c.in-Some.kept.now in
    let at = placed_at t.entries id place c.in-Some._id.now k e.index e.entry in
    subst (λ (v : TableValue). (e : ℕ × ℕ) → Among e (live v.entries v.rows) → id_at (keys_of v.entries) e.1 ≡ id → Some (k.seq, place) ≡ Some e) c.self.view_is
    (λ e m named_so. ap Some (only_row t c.self.invariant c.len-count.ensures.unique place id k at e m named_so))

pub returns-in-None-clause-only : goal.returns-in-None-clause-only
returns-in-None-clause-only c =
    let t : TableValue = record { entries = c.self.inside.docs.entries; rows = c.self.inside.index.items; last = c.self.inside.last } in
    let id = c.args.id.now in
    subst (λ (v : TableValue). (e : ℕ × ℕ) → Among e (live v.entries v.rows) → id_at (keys_of v.entries) e.1 ≡ id → None ≡ Some e) c.self.view_is
    (λ e m named_so. absurd (no_row t c.self.invariant c.len-count.ensures.unique id (sym c.in-None.ensures.value) e m named_so))
