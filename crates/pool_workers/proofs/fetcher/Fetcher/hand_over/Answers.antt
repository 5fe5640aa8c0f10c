use Rattle.proof_prelude.proofs.{rules, ap, sym, ◌∙◌, arith, length, append-nil}
use Rattle.crossbeam_channel.specs.Claims.{view}
use Rattle.pool_workers.specs.{names, ParcelView}
use Rattle.pool_workers.proofs.{SentOne, sent_one}
use Rattle.pool_workers.proofs.fetcher.Fetcher.hand_over.Goals as goal

pub put-requires-clause-part : goal.put-requires-clause-part
put-requires-clause-part g c = let e = ap (λ (y : ParcelView). y.parts) c.requires.counted.1 in omega (arith, e)

pub returns-then-put-clause-knows : goal.returns-then-put-clause-knows
returns-then-put-clause-knows g c =
    let k = c.requires.counted in
    let s : SentOne (view c.args.self.now.parcels) (c.args.number, length c.args.fetched.parcel.docs) (view c.put.new.pass) =
    sent_one _ _ _ k.1 (search rules) in (
      k.0,
      s.0,
      omega (arith, s.1, k.2),
      λ none. (
        omega (arith, s.2, k.4),
        k.5 ∙ sym s.3 ∙ sym (append-nil (names (view c.put.new.pass).sent)),
      ),
    )
