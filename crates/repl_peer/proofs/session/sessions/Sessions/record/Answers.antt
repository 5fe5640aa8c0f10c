use Rattle.proof_prelude.proofs.{Ok, sym, ap, ◌∙◌, subst, option_copied_mut}
use Rattle.range_front.specs.{low_water}
use Rattle.repl_peer.specs.{SessionValue, recorded_at, found_answer, sessions_of, AreListed, IsTableOf}
use Rattle.repl_peer.proofs.{session_in-at, sessions_of-changed, sessions_of-absent, table-set}
use Rattle.repl_peer.proofs.session.sessions.Sessions.record.Goals as goal

pub invariant_of-self-2 : goal.invariant_of-self-2
invariant_of-self-2 c =
    table-set c.self.inside.ledgered c.self.inside.by_rep c.self.inside.entries.entries _ c.self.invariant c.args.id c.in-Some.session.now c.record.new.self (sym c.get_mut.ensures.value ∙ ap option_copied_mut c.in-Some.is) (c.get_mut.follows.holds c.record.new.self).0
    (record { id = ap (λ (s : SessionValue). s.id) c.record.ensures.session; rep = ap (λ (s : SessionValue). s.rep) c.record.ensures.session; ledger = ap (λ (s : SessionValue). s.ledger) c.record.ensures.session })

pub returns : goal.returns
returns c =
    let es = c.self.inside.entries.entries in
    let there = sym c.get_mut.ensures.value ∙ ap option_copied_mut c.in-Some.is in
    let found = session_in-at c.self.inside.ledgered es c.self.invariant.0 c.args.id _ there in
    let changed = sessions_of-changed c.self.inside.ledgered es c.self.invariant.0 c.args.id c.in-Some.session.now c.record.new.self there (recorded_at c.args.at) (ap (λ (s : SessionValue). s.id) c.record.ensures.session) c.record.ensures.session in
    record {
      answer = rw (← c.self.view_is) (ap Ok c.record.ensures.mark ∙ ap (found_answer (λ (s : SessionValue). Ok (low_water s.front))) (sym found));
      sessions = rw (← c.self.view_is) (ap sessions_of (c.get_mut.follows.holds c.record.new.self).0 ∙ changed);
    }

pub invariant_of-self : goal.invariant_of-self
invariant_of-self c = subst (λ m. IsTableOf c.self.inside.ledgered m.entries × AreListed c.self.inside.by_rep (sessions_of m.entries)) (sym c.get_mut.follows.holds-at-none) c.self.invariant

pub returns-in_default : goal.returns-in_default
returns-in_default c =
    let es = c.self.inside.entries.entries in
    let there = sym c.get_mut.ensures.value ∙ ap option_copied_mut c.in_default.is in
    record {
      answer = rw (← c.self.view_is) (ap (found_answer (λ (s : SessionValue). Ok (low_water s.front))) (sym (session_in-at c.self.inside.ledgered es c.self.invariant.0 c.args.id _ there)));
      sessions = rw (← c.self.view_is) (ap (λ m. sessions_of m.entries) c.get_mut.follows.holds-at-none ∙ sessions_of-absent c.self.inside.ledgered es c.self.invariant.0 c.args.id (recorded_at c.args.at) there);
    }
