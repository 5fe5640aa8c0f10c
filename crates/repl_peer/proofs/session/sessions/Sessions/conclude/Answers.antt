use Rattle.proof_prelude.proofs.{◌==◌, if◌then◌else◌, sym, ap, ◌∙◌, subst, option_copied_mut}
use Rattle.range_front.specs.{low_water}
use Rattle.repl_peer.specs.{SessionValue, recorded_at, conclude_in, found_answer, sessions_of, AreListed, IsTableOf}
use Rattle.repl_peer.proofs.{concluded_same, session_in-at, sessions_of-changed, sessions_of-absent, table-set}
use Rattle.repl_peer.proofs.session.sessions.Sessions.conclude.Goals as goal

pub invariant_of-self-2 : goal.invariant_of-self-2
invariant_of-self-2 c =
    table-set c.self.inside.ledgered c.self.inside.by_rep c.self.inside.entries.entries _ c.self.invariant c.args.id c.in-Some.session.now c.conclude.new.self (sym c.get_mut.ensures.value ∙ ap option_copied_mut c.in-Some.is) (c.get_mut.follows.holds c.conclude.new.self).0
    (concluded_same c.args.at c.in-Some.session.now c.conclude.new.self c.conclude.ensures.session)

pub returns : goal.returns
returns c =
    let es = c.self.inside.entries.entries in
    let s = c.in-Some.session.now in
    let t = c.conclude.new.self in
    let there = sym c.get_mut.ensures.value ∙ ap option_copied_mut c.in-Some.is in
    let found = session_in-at c.self.inside.ledgered es c.self.invariant.0 c.args.id _ there in
    let change = λ (s : SessionValue). if low_water s.front == s.goal then recorded_at c.args.at s else s in
    let changed = sessions_of-changed c.self.inside.ledgered es c.self.invariant.0 c.args.id s t there change (concluded_same c.args.at s t c.conclude.ensures.session).id c.conclude.ensures.session in
    record {
      answer = rw (← c.self.view_is) (c.conclude.ensures.answer ∙ ap (found_answer conclude_in) (sym found));
      sessions = rw (← c.self.view_is) (ap sessions_of (c.get_mut.follows.holds t).0 ∙ changed);
    }

pub invariant_of-self : goal.invariant_of-self
invariant_of-self c = subst (λ m. IsTableOf c.self.inside.ledgered m.entries × AreListed c.self.inside.by_rep (sessions_of m.entries)) (sym c.get_mut.follows.holds-at-none) c.self.invariant

pub returns-in_default : goal.returns-in_default
returns-in_default c =
    let es = c.self.inside.entries.entries in
    let there = sym c.get_mut.ensures.value ∙ ap option_copied_mut c.in_default.is in
    let change = λ (s : SessionValue). if low_water s.front == s.goal then recorded_at c.args.at s else s in
    record {
      answer = rw (← c.self.view_is) (ap (found_answer conclude_in) (sym (session_in-at c.self.inside.ledgered es c.self.invariant.0 c.args.id _ there)));
      sessions = rw (← c.self.view_is) (ap (λ m. sessions_of m.entries) c.get_mut.follows.holds-at-none ∙ sessions_of-absent c.self.inside.ledgered es c.self.invariant.0 c.args.id change there);
    }
