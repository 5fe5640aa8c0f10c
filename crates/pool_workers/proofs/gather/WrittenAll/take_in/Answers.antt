use Rattle.proof_prelude.proofs.{sym, ◌∙◌, arith}
use Rattle.crossbeam_channel.specs.Claims.{view}
use Rattle.pool_workers.proofs.{Gathers, gathers}
use Rattle.pool_workers.proofs.ParcelRule as parcel
use Rattle.pool_workers.proofs.gather.WrittenAll.take_in.Goals as goal

pub absorb-requires-clause-rule : goal.absorb-requires-clause-rule
absorb-requires-clause-rule g c = parcel.merges _ _ _ _ c.requires.parcels.1

pub returns-clause-knows : goal.returns-clause-knows
returns-clause-knows g c none =
    let s = c.count_up-sum.ensures.sum none in
    let k = c.requires.knows (sym c.take.ensures.value ∙ s.1) in
    let o = c.requires.one_knows.2 s.2 in
    let p : Gathers (view c.args.parcels.now) (view c.args.one.parcels) (view c.absorb.new.pass) = gathers _ _ _ c.absorb.ensures.rule in (
      omega (arith, c.merge.ensures.amount, p.3, k.0, o.1),
      omega (arith, s.0, p.4, k.1, o.0),
    )
