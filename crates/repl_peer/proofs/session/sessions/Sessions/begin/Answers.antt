use Rattle.proof_prelude.proofs.{◌∷◌, [], ◌++◌, cond, List, sym, ap, ap₂, ◌∙◌, subst}
use Rattle.indexmap.specs.IndexMap.{insert_entry}
use Rattle.indexmap.proofs.CallerLemmas.{insert_entry-new}
use Rattle.rev_tree.specs.{SessionId}
use Rattle.repl_log.specs.declared.replication.RepId.{RepId}
use Rattle.repl_log.specs.{at_session, same_rep}
use Rattle.repl_peer.specs.{SessionValue, holds, listed, sessions_of, AreListed, IsTableOf}
use Rattle.repl_peer.proofs.{AreListed-new, AreListed-same, absent-not_held, begin_in-new, sessions_of-new, Stored-new}
use Rattle.repl_peer.proofs.session.sessions.Sessions.begin.Goals as goal

pub invariant_of-self : goal.invariant_of-self
invariant_of-self c = subst (λ es. IsTableOf c.self.inside.ledgered es × AreListed c.self.inside.by_rep (sessions_of es)) (sym c.reserve.ensures.entries) c.self.invariant

pub invariant_of-self-in_err-add : goal.invariant_of-self-in_err-add
invariant_of-self-in_err-add c =
    let same = AreListed-same c.self.inside.by_rep c.add.new.self (sessions_of c.self.inside.entries.entries) c.self.invariant.1 c.in_err-add.ensures.err in
    subst (λ es. IsTableOf c.self.inside.ledgered es × AreListed c.add.new.self (sessions_of es)) (sym c.reserve.ensures.entries) (c.self.invariant.0, same)

pub invariant_of-self-2 : goal.invariant_of-self-2
invariant_of-self-2 c =
    let es = c.self.inside.entries.entries in
    let none = ap (λ (l : List SessionValue). holds l c.args.id) c.self.view_is ∙ begin_in-new c.args.self.now c.args.id c.args.beginning c.in_ok-check_new.ensures in
    let absent = absent-not_held c.self.inside.ledgered es c.self.invariant.0 c.args.id none in
    let entered = c.in-Ok.ensures.entries ∙ ap (λ l. insert_entry at_session l c.args.id c.new-session.result) c.reserve.ensures.entries ∙ insert_entry-new at_session c.self.inside.entries c.args.id c.new-session.result absent in
    let id = ap (λ (s : SessionValue). s.id) c.new-session.ensures in
    let rep = ap (λ (s : SessionValue). s.rep) c.new-session.ensures in
    let ledger = ap (λ (s : SessionValue). s.ledger) c.new-session.ensures in
    let all = ap sessions_of entered ∙ sessions_of-new c.self.inside.ledgered es c.self.invariant.0 c.args.id c.new-session.result in (
      Stored-new c.self.inside.ledgered es c.self.invariant.0 c.args.id c.insert.new.self.entries c.new-session.result entered c.insert.ensures.unique id ledger,
      subst (AreListed c.add.new.self) (sym all)
          (AreListed-new c.self.inside.by_rep c.add.new.self c.new-session.result (sessions_of es) c.self.invariant.1
          (λ asked.
          c.in_ok-add.ensures.ok asked
          ∙ ap₂ (λ (r : RepId) (j : SessionId). cond (same_rep r asked) (listed c.self.inside.by_rep asked ++ j ∷ []) (listed c.self.inside.by_rep asked)) (sym rep) (sym id))),
    )

pub returns-clause-ok : goal.returns-clause-ok
returns-clause-ok c =
    let es = c.self.inside.entries.entries in
    let none = ap (λ (l : List SessionValue). holds l c.args.id) c.self.view_is ∙ begin_in-new c.args.self.now c.args.id c.args.beginning c.in_ok-check_new.ensures in
    let absent = absent-not_held c.self.inside.ledgered es c.self.invariant.0 c.args.id none in
    let entered = c.in-Ok.ensures.entries ∙ ap (λ l. insert_entry at_session l c.args.id c.new-session.result) c.reserve.ensures.entries ∙ insert_entry-new at_session c.self.inside.entries c.args.id c.new-session.result absent in
    rw (← c.self.view_is)
    (ap sessions_of entered
    ∙ sessions_of-new c.self.inside.ledgered es c.self.invariant.0 c.args.id c.new-session.result
    ∙ ap (λ s. s ∷ sessions_of es) c.new-session.ensures)
