use Rattle.proof_prelude.proofs.{◌≡◌, List, true, false, refl, sym, ap, ◌∙◌, err_from_is_err_and, le-ltb, lt-ltb}
use Rattle.repl_peer.specs.{SessionValue, holds}
use Rattle.repl_peer.proofs.{holds-lookup, begin_in-exists, begin_in-started, begin_in-told}
use Rattle.repl_peer.proofs.session.sessions.Sessions.check_new.Goals as goal
use Rattle.repl_peer.proofs.session.sessions.Sessions.check_new.Goals.{After-contains_key}

-- whether the id exists
seen : (c : After-contains_key) → holds c.args.self.now c.args.id ≡ c.contains_key.result
seen c = ap (λ (l : List SessionValue). holds l c.args.id) (sym c.self.view_is) ∙ holds-lookup c.self.inside.ledgered c.self.inside.entries.entries c.self.invariant.0 c.args.id ∙ sym c.contains_key.ensures

pub returns-then-contains_key : goal.returns-then-contains_key
returns-then-contains_key c = begin_in-exists c.args.self.now c.args.id c.args.beginning.now (seen (goal.at.returns-then-contains_key c).After-contains_key ∙ c.if-contains_key.true)

pub returns-in_err-recorded : goal.returns-in_err-recorded
returns-in_err-recorded c =
    let new = seen (goal.at.returns-in_err-recorded c).After-contains_key ∙ c.if-contains_key.false in
    let p = err_from_is_err_and c.from_residual.result c.from_residual.ensures.1 in
    rw (p.1, p.2) (sym (begin_in-started c.args.self.now c.args.id c.args.beginning.now _ new c.in_err-recorded.ensures))

pub returns-then-start-recorded : goal.returns-then-start-recorded
returns-then-start-recorded c =
    let new = seen (goal.at.returns-then-start-recorded c).After-contains_key ∙ c.if-contains_key.false in
    begin_in-told c.args.self.now c.args.id c.args.beginning.now c.in_ok-recorded.recorded true _ new c.in_ok-recorded.ensures (lt-ltb _ _ c.if-start-recorded.true) refl

pub returns-then-goal-start : goal.returns-then-goal-start
returns-then-goal-start c =
    let new = seen (goal.at.returns-then-goal-start c).After-contains_key ∙ c.if-contains_key.false in
    begin_in-told c.args.self.now c.args.id c.args.beginning.now c.in_ok-recorded.recorded false true new c.in_ok-recorded.ensures (le-ltb _ _ c.if-start-recorded.false) (lt-ltb _ _ c.if-goal-start.true)

pub returns : goal.returns
returns c =
    let new = seen (goal.at.returns c).After-contains_key ∙ c.if-contains_key.false in
    begin_in-told c.args.self.now c.args.id c.args.beginning.now c.in_ok-recorded.recorded false false new c.in_ok-recorded.ensures (le-ltb _ _ c.if-start-recorded.false) (le-ltb _ _ c.if-goal-start.false)
