use Rattle.proof_prelude.proofs.{sym, ap, ◌∙◌, subst, option_copied_mut, on_ok_weaker, on_err_weaker}
use Rattle.repl_peer.specs.{SessionValue, GivesUnlessMemory, append_in, with_window, found_answer, sessions_of, AreListed, IsTableOf}
use Rattle.repl_peer.proofs.{appended_same, session_in-at, sessions_of-changed, sessions_of-same, table-set}
use Rattle.repl_peer.proofs.session.sessions.Sessions.append.Goals as goal

pub invariant_of-self-2 : goal.invariant_of-self-2
invariant_of-self-2 c =
    table-set c.self.inside.ledgered c.self.inside.by_rep c.self.inside.entries.entries _ c.self.invariant c.args.id c.in-Some.session.now c.append.new.self (sym c.get_mut.ensures.value ∙ ap option_copied_mut c.in-Some.is) (c.get_mut.follows.holds c.append.new.self).0
    (appended_same c.args.ready c.in-Some.session.now c.append.new.self c.append.result c.append.ensures.ok c.append.ensures.err)

pub returns : goal.returns
returns c =
    let es = c.self.inside.entries.entries in
    let s = c.in-Some.session.now in
    let t = c.append.new.self in
    let there = sym c.get_mut.ensures.value ∙ ap option_copied_mut c.in-Some.is in
    let found = session_in-at c.self.inside.ledgered es c.self.invariant.0 c.args.id _ there in
    let same = appended_same c.args.ready s t c.append.result c.append.ensures.ok c.append.ensures.err in
    let set = ap sessions_of (c.get_mut.follows.holds t).0 in
    let change = λ (s : SessionValue). with_window c.args.ready s (append_in c.args.ready s) in
    record {
      answer = rw (← c.self.view_is) (subst (λ o. GivesUnlessMemory c.append.result (found_answer (append_in c.args.ready) o)) (sym found) c.append.ensures.answer);
      ok = rw (← c.self.view_is) (on_ok_weaker c.append.result (λ made. set ∙ sessions_of-changed c.self.inside.ledgered es c.self.invariant.0 c.args.id s t there change same.id made) c.append.ensures.ok);
      err = rw (← c.self.view_is) (on_err_weaker c.append.result (λ kept. set ∙ sessions_of-same c.self.inside.ledgered es c.self.invariant.0 c.args.id s t there kept) c.append.ensures.err);
    }

pub invariant_of-self : goal.invariant_of-self
invariant_of-self c = subst (λ m. IsTableOf c.self.inside.ledgered m.entries × AreListed c.self.inside.by_rep (sessions_of m.entries)) (sym c.get_mut.follows.holds-at-none) c.self.invariant

pub returns-in_default : goal.returns-in_default
returns-in_default c =
    let absent = session_in-at c.self.inside.ledgered c.self.inside.entries.entries c.self.invariant.0 c.args.id _ (sym c.get_mut.ensures.value ∙ ap option_copied_mut c.in_default.is) in
    record {
      answer = rw (← c.self.view_is) (ap (found_answer (append_in c.args.ready)) (sym absent));
      ok = tt;
      err = rw (← c.self.view_is) (ap (λ m. sessions_of m.entries) c.get_mut.follows.holds-at-none);
    }
