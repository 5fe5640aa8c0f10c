use Rattle.proof_prelude.proofs.{[], ◌∷◌, ◌++◌, is_ok, sym, ap, ◌∙◌, subst, err_from_is_err_and, on_ok_weaker, on_err_weaker, option_copied_mut, set_value, set_value_same}
use Rattle.indexmap.proofs.CallerLemmas.{insert_entry-new}
use Rattle.indexmap.specs.IndexMap.{insert_entry}
use Rattle.repl_log.specs.{GivesUnlessMemory, value_of, with_entry, put_answer, same_rep, log_in-found}
use Rattle.repl_log.proofs.{put_answer_in-new, logs_with-set, logs_with-new}
use Rattle.repl_log.proofs.logs.Logs.put.Goals as goal

pub returns-in-Some-clause-answer : goal.returns-in-Some-clause-answer
returns-in-Some-clause-answer c =
    let there = sym c.get_mut.ensures.value ∙ ap option_copied_mut c.in-Some.is in
    let log = log_in-found c.args.rep.now c.self.inside.logs.entries c.in-Some.log.now there in
    rw (← c.self.view_is) (subst (λ g. GivesUnlessMemory c.put.result (put_answer g (value_of c.args.entry))) (sym log) c.put.ensures.answer)

pub returns-in-Some-clause-ok : goal.returns-in-Some-clause-ok
returns-in-Some-clause-ok c =
    let there = sym c.get_mut.ensures.value ∙ ap option_copied_mut c.in-Some.is in
    rw (← c.self.view_is)
    (on_ok_weaker c.put.result
    (λ put.
    (c.get_mut.follows.holds c.put.new.self).0
    ∙ ap (set_value (same_rep c.args.rep.now) c.self.inside.logs.entries) put
    ∙ logs_with-set c.args.rep.now (value_of c.args.entry) c.self.inside.logs.entries c.in-Some.log.now there)
    c.put.ensures.ok)

pub returns-in-Some-clause-err : goal.returns-in-Some-clause-err
returns-in-Some-clause-err c =
    let there = sym c.get_mut.ensures.value ∙ ap option_copied_mut c.in-Some.is in
    on_err_weaker c.put.result
    (λ same.
    (c.get_mut.follows.holds c.put.new.self).0
    ∙ ap (set_value (same_rep c.args.rep.now) c.self.inside.logs.entries) same
    ∙ set_value_same (same_rep c.args.rep.now) c.self.inside.logs.entries c.in-Some.log.now there
    ∙ c.self.view_is)
    c.put.ensures.err

pub returns-in_err-set-in-None-clause-answer : goal.returns-in_err-set-in-None-clause-answer
returns-in_err-set-in-None-clause-answer c =
    let there = sym c.get_mut.ensures.value ∙ ap option_copied_mut c.in-None.is in
    let refused = err_from_is_err_and c.from_residual.result c.from_residual.ensures.1 in
    rw (refused.1, refused.2, ← c.self.view_is) (ap is_ok (put_answer_in-new c.args.rep.now (value_of c.args.entry) c.self.inside.logs.entries there))

pub returns-in_err-rep-in-None-clause-answer : goal.returns-in_err-rep-in-None-clause-answer
returns-in_err-rep-in-None-clause-answer c =
    let there = sym c.get_mut.ensures.value ∙ ap option_copied_mut c.in-None.is in
    let refused = err_from_is_err_and c.from_residual-in_err-rep-in-None.result c.from_residual-in_err-rep-in-None.ensures.1 in
    rw (refused.1, refused.2, ← c.self.view_is) (ap is_ok (put_answer_in-new c.args.rep.now (value_of c.args.entry) c.self.inside.logs.entries there))

pub returns-in_err-insert-in-None-clause-answer : goal.returns-in_err-insert-in-None-clause-answer
returns-in_err-insert-in-None-clause-answer c =
    let there = sym c.get_mut.ensures.value ∙ ap option_copied_mut c.in-None.is in
    let refused = err_from_is_err_and c.from_residual-in_err-insert-in-None.result c.from_residual-in_err-insert-in-None.ensures.1 in
    rw (refused.1, refused.2, ← c.self.view_is) (ap is_ok (put_answer_in-new c.args.rep.now (value_of c.args.entry) c.self.inside.logs.entries there))

pub returns-in_ok-insert-in-None-clause-answer : goal.returns-in_ok-insert-in-None-clause-answer
returns-in_ok-insert-in-None-clause-answer c =
    let there = sym c.get_mut.ensures.value ∙ ap option_copied_mut c.in-None.is in
    rw (← c.self.view_is) (sym (put_answer_in-new c.args.rep.now (value_of c.args.entry) c.self.inside.logs.entries there))

pub returns-in_ok-insert-in-None-clause-ok : goal.returns-in_ok-insert-in-None-clause-ok
returns-in_ok-insert-in-None-clause-ok c =
    let there = sym c.get_mut.ensures.value ∙ ap option_copied_mut c.in-None.is in
    let logs = c.self.inside.logs in
    let rep = c.args.rep.now in
    let log = c.shrink.ensures ∙ c.in_ok-set-in-None.ensures.ok ∙ ap (λ g. with_entry g (value_of c.args.entry)) c.new-log.ensures.value in
    rw (← c.self.view_is)
    (c.fit.ensures
    ∙ c.in_ok-insert-in-None.ensures.entries
    ∙ ap (λ r. insert_entry same_rep c.get_mut.follows.lender-at-none.entries r c.shrink.new.self) c.in_ok-rep-in-None.ensures.copied
    ∙ ap (λ m. insert_entry same_rep m.entries rep c.shrink.new.self) c.get_mut.follows.holds-at-none
    ∙ insert_entry-new same_rep logs rep c.shrink.new.self there
    ∙ ap (λ g. logs.entries ++ (rep, g) ∷ []) log
    ∙ logs_with-new rep (value_of c.args.entry) logs.entries there)
