use Rattle.proof_prelude.proofs.{◌≡◌, ℕ, ◌++◌, ◌∷◌, [], sum, ap, sym, ◌∙◌, arith, sum_by_push, append-nil}
use Rattle.crossbeam_channel.specs.Claims.{view}
use Rattle.pool_workers.specs.{names, WindowView}
use Rattle.pool_workers.proofs.{Gathers, gathers}
use Rattle.pool_workers.proofs.WindowRule as window
use Rattle.pool_workers.proofs.ParcelRule as parcel
use Rattle.pool_workers.proofs.gather.FetchedAll.take_in.Goals as goal

pub absorb-requires-clause-rule : goal.absorb-requires-clause-rule
absorb-requires-clause-rule g c = window.merges _ _ _ _ c.requires.windows.1

pub absorb-requires-2-clause-rule : goal.absorb-requires-2-clause-rule
absorb-requires-2-clause-rule g c = parcel.merges _ _ _ _ c.requires.parcels.1

pub returns-clause-knows : goal.returns-clause-knows
returns-clause-knows g c none =
    let s = c.count_up-sum.ensures.sum none in
    let k = c.requires.knows (sym c.take.ensures.value ∙ s.1) in
    let o = c.requires.one_knows.3 s.2 in
    let p : Gathers (view c.args.parcels.now) (view c.args.one.parcels) (view c.absorb-2.new.pass) = gathers _ _ _ c.absorb-2.ensures.rule in
    let counts = sum_by_push (λ (x : ℕ). x) c.args.self.now.counts.items c.args.one.fetched in
    let pushed : sum c.push_reserved.new.self.items ≡ sum (c.args.self.now.counts.items ++ c.args.one.fetched ∷ []) = ap sum c.push_reserved.ensures.items in (
      omega (arith, counts, pushed, p.0, k.0, o.0),
      omega (arith, s.0, p.1, k.1, c.requires.one_knows.2),
      ap (λ (y : WindowView). y.taken) c.absorb.ensures.rule ∙ ap (λ l. l ++ (view c.args.one.windows).taken) k.2 ∙ ap (λ l. names (view c.args.parcels.now).sent ++ l) (o.1 ∙ append-nil (names (view c.args.one.parcels).sent)) ∙ sym p.2,
    )
