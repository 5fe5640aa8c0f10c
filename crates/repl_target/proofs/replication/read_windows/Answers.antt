use Rattle.proof_prelude.proofs.{◌<◌, sym, ◌∙◌, subst, arith, and_from, lt-ltb}
use Rattle.repl_target.specs.{Reading, Carries}
use Rattle.repl_target.proofs.{reads_more}
use Rattle.repl_target.proofs.replication.read_windows.Goals as goal

pub loop-since-smaller : goal.loop-since-smaller
loop-since-smaller g c = omega (arith, c.loop-since-test.true, c.in_ok-since.ensures.moves)

pub loop-since-preserved : goal.loop-since-preserved
loop-since-preserved g c =
    let inv = c.loop-since.invariant in
    let source = c.args.source.now.1.db in
    let plan = c.args.plan.now in
    let before : Reading = record { since = c.loop-since.since; target = c.loop-since.target.1 } in
    let after : Reading = record { since = c.in_ok-since.since; target = c.carry_window.new.target.1 } in
    let less : c.loop-since.since < source.update_seq = omega (arith, c.loop-since-test.true, inv.3) in
    let due = and_from _ _ (lt-ltb c.loop-since.since source.update_seq less) (sym c.has_left.ensures ∙ c.if-has_left.true) in
    let carries : Carries (g.G.WriteFilter.refuses c.args.target.now.0) source plan before after = subst (λ f. Carries (g.G.WriteFilter.refuses f) source plan before after) inv.1 c.in_ok-since.ensures.ok in
    (reads_more _ source plan c.loop-since.windows _ before after inv.0 due carries, c.in_ok-since.ensures.filter ∙ inv.1, omega (arith, inv.2, c.in_ok-since.ensures.moves), inv.3)
