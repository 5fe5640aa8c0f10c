use Rattle.proof_prelude.proofs.{◌≡◌, OnOk, OnErr, Some, slice_get, sym, ap, ◌∙◌, subst, option_copied}
use Rattle.repl_world.specs.{WorldValue, appends}
use Rattle.repl_world.proofs.{appended_ok, appended_err}
use Rattle.repl_world.proofs.world.World.append.Goals as goal

pub returns-clause-ok : goal.returns-clause-ok
returns-clause-ok g c =
    let w : WorldValue = record { source = c.self.inside.source.1; target = c.self.inside.target.1; chosen = c.self.inside.chosen; bag = c.self.inside.bag; backups = c.self.inside.backups.items } in
    let there : slice_get w.bag.windows c.args.place ≡ Some c.in-Some.window.now = sym c.window.ensures ∙ ap option_copied c.in-Some.is in
    subst (λ v. OnOk c.unless_memory.result (record w { target = c.append.new.self.1 } ≡ appends v.1 c.args.session (slice_get v.1.bag.windows c.args.place))) c.self.view_is
    (appended_ok (g.F.WriteFilter.refuses c.self.inside.target.0) w c.args.session c.args.place c.in-Some.window.now there c.in_ok-window.window c.in_ok-window.ensures.copied c.law.ensures.peer.sessions c.append.result c.append.new.self.1 c.append.ensures.answer c.append.ensures.ok c.append.ensures.err
    c.unless_memory.result c.unless_memory.ensures.ok)

pub returns-clause-err : goal.returns-clause-err
returns-clause-err g c =
    let w : WorldValue = record { source = c.self.inside.source.1; target = c.self.inside.target.1; chosen = c.self.inside.chosen; bag = c.self.inside.bag; backups = c.self.inside.backups.items } in
    let there : slice_get w.bag.windows c.args.place ≡ Some c.in-Some.window.now = sym c.window.ensures ∙ ap option_copied c.in-Some.is in
    subst (λ v. OnErr c.unless_memory.result (record w { target = c.append.new.self.1 } ≡ v.1)) c.self.view_is
    (appended_err (g.F.WriteFilter.refuses c.self.inside.target.0) w c.args.session c.args.place c.in-Some.window.now there c.in_ok-window.window c.in_ok-window.ensures.copied c.law.ensures.peer.sessions c.append.result c.append.new.self.1 c.append.ensures.answer c.append.ensures.ok c.append.ensures.err
    c.unless_memory.result c.unless_memory.ensures.err)
