use Rattle.proof_prelude.proofs.{◌≡◌, OnOk, OnErr, Some, slice_get, sym, ap, ◌∙◌, subst, option_copied}
use Rattle.repl_world.specs.{WorldValue, settles, IsStopped}
use Rattle.repl_world.proofs.{settled_ok, settled_err}
use Rattle.repl_world.proofs.world.World.settle.Goals as goal

pub returns-clause-ok : goal.returns-clause-ok
returns-clause-ok g c =
    let w : WorldValue = record { source = c.self.inside.source.1; target = c.self.inside.target.1; chosen = c.self.inside.chosen; bag = c.self.inside.bag; backups = c.self.inside.backups.items } in
    let there : slice_get w.bag.parcels c.args.place ≡ Some c.in-Some.held.now = sym c.parcel.ensures ∙ ap option_copied c.in-Some.is in
    subst (λ v. OnOk c.found_memory.result (record w { target = c.settle.new.self.1 } ≡ settles (g.F.WriteFilter.refuses v.0.1) v.1 c.args.session (slice_get v.1.bag.parcels c.args.place))) c.self.view_is
    (settled_ok (g.F.WriteFilter.refuses c.self.inside.target.0) w c.args.session c.args.place c.in-Some.held.now there c.in_ok-parcel.parcel c.in_ok-parcel.ensures.copied c.settle.result c.settle.new.self.1 c.settle.ensures.settles c.found_memory.result c.found_memory.ensures.ok)

pub returns-clause-err : goal.returns-clause-err
returns-clause-err g c =
    let w : WorldValue = record { source = c.self.inside.source.1; target = c.self.inside.target.1; chosen = c.self.inside.chosen; bag = c.self.inside.bag; backups = c.self.inside.backups.items } in
    let there : slice_get w.bag.parcels c.args.place ≡ Some c.in-Some.held.now = sym c.parcel.ensures ∙ ap option_copied c.in-Some.is in
    subst (λ v. OnErr c.found_memory.result (IsStopped (g.F.WriteFilter.refuses v.0.1) v.1 c.args.session (slice_get v.1.bag.parcels c.args.place) (record w { target = c.settle.new.self.1 }))) c.self.view_is
    (settled_err (g.F.WriteFilter.refuses c.self.inside.target.0) w c.args.session c.args.place c.in-Some.held.now there c.in_ok-parcel.parcel c.in_ok-parcel.ensures.copied c.settle.result c.settle.new.self.1 c.settle.ensures.settles c.found_memory.result c.found_memory.ensures.err)
