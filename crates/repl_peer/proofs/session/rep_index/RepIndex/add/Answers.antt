use Rattle.proof_prelude.proofs.{◌∷◌, [], ◌++◌, None, sym, ap, ◌∙◌, ◌≡◌, cond, Some, lookup, option_copied_mut, option_map_or, err_from_is_err_and}
use Rattle.repl_log.specs.declared.replication.RepId.{RepId}
use Rattle.repl_log.specs.{same_rep}
use Rattle.repl_peer.proofs.lemmas.session.AddedToRepIndex.{added_new}
use Rattle.repl_peer.proofs.{added_known, kept_known}
use Rattle.repl_peer.proofs.session.rep_index.RepIndex.add.Goals as goal

pub returns-in_err-push-in-Some-clause-err : goal.returns-in_err-push-in-Some-clause-err
returns-in_err-push-in-Some-clause-err c =
    let p = err_from_is_err_and c.from_residual.result c.from_residual.ensures.1 in
    rw p.1 (λ asked.
    let es = c.args.self.now.ids.entries in
    let is = sym c.get_mut.ensures.value ∙ ap option_copied_mut c.in-Some.is in
    ap (λ m. option_map_or (λ ids. ids.items) (lookup (same_rep asked) m) []) (c.get_mut.follows.holds c.push.new.self).0
    ∙ kept_known (λ ids. ids.items) es c.args.rep.now asked c.in-Some.ids.now c.push.new.self is c.in_err-push-in-Some.ensures.items)

pub returns-in_ok-push-in-Some-clause-ok : goal.returns-in_ok-push-in-Some-clause-ok
returns-in_ok-push-in-Some-clause-ok c = λ asked.
    let es = c.args.self.now.ids.entries in
    let is = sym c.get_mut.ensures.value ∙ ap option_copied_mut c.in-Some.is in
    ap (λ m. option_map_or (λ ids. ids.items) (lookup (same_rep asked) m) []) (c.get_mut.follows.holds c.push.new.self).0
    ∙ added_known (λ ids. ids.items) es c.args.rep.now asked c.in-Some.ids.now c.push.new.self c.args.id is c.in_ok-push-in-Some.ensures.items

pub returns-in_ok-insert-in-None-clause-ok : goal.returns-in_ok-insert-in-None-clause-ok
returns-in_ok-insert-in-None-clause-ok c = λ asked.
    let es = c.args.self.now.ids.entries in
    let is : lookup (same_rep c.args.rep.now) es ≡ None = sym c.get_mut.ensures.value ∙ ap option_copied_mut c.in-None.is in
    ap (λ o. option_map_or (λ ids. ids.items) o []) (c.in_ok-insert-in-None.ensures.updates.0 asked)
    ∙ (λ i. option_map_or (λ ids. ids.items) (cond (same_rep c.in_ok-rep-in-None.rep asked) (Some c.push-in-None.new.self) (lookup (same_rep asked) (c.get_mut.follows.holds-at-none i).entries)) [])
    ∙ ap (λ (r : RepId). option_map_or (λ ids. ids.items) (cond (same_rep r asked) (Some c.push-in-None.new.self) (lookup (same_rep asked) es)) []) c.in_ok-rep-in-None.ensures.copied
    ∙ added_new (λ ids. ids.items) es c.args.rep.now asked c.push-in-None.new.self c.args.id is (c.in_ok-push-in-None.ensures.items ∙ ap (λ l. l ++ c.args.id ∷ []) c.new-ids.ensures.items)
