use Rattle.proof_prelude.proofs.{rules, None, ◌≡◌, ◌<◌, ap, arith, length}
use Rattle.crossbeam_channel.specs.Claims.{view}
use Rattle.pool_workers.specs.{ParcelView}
use Rattle.pool_workers.proofs.{gets, GotOne, got_one}
use Rattle.pool_workers.proofs.context.Context.take_parcel.Goals as goal

pub recv_as-requires-clause-rule : goal.recv_as-requires-clause-rule
recv_as-requires-clause-rule g c =
    let part : 0 < (view c.args.writer.now.parcels).parts = let e = ap (λ (y : ParcelView). y.parts) c.requires.knows.0 in omega (arith, e) in
    (gets _ _ part, λ _ _ _ _. tt)

pub write-requires : goal.write-requires
write-requires g c =
    let k = c.requires.knows in
    let none : c.args.writer.now.stopped ≡ None = search rules in
    let s : GotOne (view c.args.writer.now.parcels) (c.in-Ok-Parcel.number, length c.in-Ok-Parcel.fetched.parcel.docs) (view c.recv_as.new.pass) =
    got_one _ _ (c.in-Ok-Parcel.number, length c.in-Ok-Parcel.fetched.parcel.docs) k.0 (rw c.in-Ok-Parcel.field-0-is at c.in-Ok-Parcel.ensures.rule) in
    record { source = c.requires.source; seat = c.requires.board_seat; knows = ((s.0, k.1, λ _. (omega (arith, s.1, (k.2 none).0), omega (arith, s.2, (k.2 none).1))), none) }

pub returns-else-is_none-clause-knows : goal.returns-else-is_none-clause-knows
returns-else-is_none-clause-knows g c = search rules
