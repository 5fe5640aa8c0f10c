use Rattle.proof_prelude.proofs.{Ok, sym, ap, ◌∙◌, option_copied}
use Rattle.repl_log.specs.{same_rep}
use Rattle.repl_peer.specs.{SessionValue, sessions_of, recorded_by}
use Rattle.repl_peer.proofs.{recorded_by-found, recorded_by-other, recorded_by-at}
use Rattle.repl_peer.proofs.session.sessions.Sessions.recorded_of.Goals as goal

pub returns-then-eq : goal.returns-then-eq
returns-then-eq c =
    let there = sym c.get.ensures.value ∙ ap option_copied c.in-Some-get.is in
    let same = ap (λ (s : SessionValue). same_rep s.rep c.args.rep.now) (sym c.session.view_is) ∙ sym c.eq.ensures ∙ c.if-eq.true in
    let found = recorded_by-found c.self.inside.ledgered c.self.inside.entries.entries c.self.invariant.0 c.in-Some.base c.args.rep.now c.in-Some-get.session.now there same in
    rw (← c.self.view_is) (ap (λ (s : SessionValue). Ok s.recorded) c.session.view_is ∙ sym (ap (recorded_by (sessions_of c.self.inside.entries.entries) c.args.rep.now) c.in-Some.is ∙ found))

pub returns-else-eq : goal.returns-else-eq
returns-else-eq c =
    let there = sym c.get.ensures.value ∙ ap option_copied c.in-Some-get.is in
    let other = ap (λ (s : SessionValue). same_rep s.rep c.args.rep.now) (sym c.session.view_is) ∙ sym c.eq.ensures ∙ c.if-eq.false in
    rw (← c.self.view_is) (sym (ap (recorded_by (sessions_of c.self.inside.entries.entries) c.args.rep.now) c.in-Some.is ∙ recorded_by-other c.self.inside.ledgered c.self.inside.entries.entries c.self.invariant.0 c.in-Some.base c.args.rep.now c.in-Some-get.session.now there other))

pub returns-in-None : goal.returns-in-None
returns-in-None c =
    let there = sym c.get.ensures.value ∙ ap option_copied c.in-None.is in
    rw (← c.self.view_is) (sym (ap (recorded_by (sessions_of c.self.inside.entries.entries) c.args.rep.now) c.in-Some.is ∙ recorded_by-at c.self.inside.ledgered c.self.inside.entries.entries c.self.invariant.0 c.in-Some.base c.args.rep.now _ there))
