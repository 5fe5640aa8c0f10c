use Rattle.proof_prelude.proofs.{arith, common_steps, ◌≡◌, sym, rules, subst, Some, Result, OnErr, OnOk}
use Rattle.repl_peer.specs.{PeerValue, after_edit}
use Rattle.repl_network.proofs.{edit_writes}
use Rattle.script_databases.specs.{IsStored, State, edited_answer, edited_as, edited_at, peer_at, GivesOrMemory, Edited, Refusal, beside_of, state_of}
use Rattle.script_databases.proofs.{at_of, changes, edit_gives, stays, stored_written, writes_of}
use Rattle.script_databases.proofs.databases.Databases.edit.Goals as goal

pub returns : goal.returns
returns c =
    let g = beside_of c.self.inside.settings c.self.inside.drawn c.self.inside.backups in
    let a = c.args in
    let old = c.self.inside.by_name in
    let l = c.in-Some.peer.now in
    let u = c.edit-answer.new.self in
    let e = c.edit-answer.ensures in
    let r = c.edit-answer.result in
    let there = c.in-Some.ensures.value in
    let new = c.get_mut.follows.lender u in
    let updates = (c.get_mut.follows.holds u).3 (search rules) in
    let change = λ (p : PeerValue). after_edit p a.id.now a.parent a.deleted a.body.now in
    let Good : Result Edited Refusal → State → Type 0 = λ x st. GivesOrMemory x (edited_answer (peer_at st a.name.now) a.id.now a.parent a.deleted a.body.now) × OnOk x (state_of g new.entries ≡ edited_at st a.name.now a.id.now a.parent a.deleted a.body.now) × OnErr x (state_of g new.entries ≡ st) in
    let k = edit_gives _ _ u.1 (change l.1) r _ e.answer e.ok (changes g old new a.name.now l u there updates change r e.ok) (stays g old new a.name.now l u there updates r e.err) in
    let good = subst (Good c.edit_told.result) c.self.view_is (subst (λ x. Good x (state_of g old.entries)) (sym c.edit_told.ensures) (subst (λ o. GivesOrMemory (edited_as u.1 r) (edited_answer o a.id.now a.parent a.deleted a.body.now)) (sym (at_of old.entries a.name.now (Some l) (sym there))) k.0, k.1, k.2)) in
    record { answer = good.0; ok = good.1; err = good.2 }

pub invariant_of-self : goal.invariant_of-self
invariant_of-self c =
    let same : c.get_mut.follows.lender-at-none.entries ≡ c.self.inside.by_name.entries = first_of (search rules, grind (arith, common_steps)) in
    subst (λ es. IsStored (beside_of c.self.inside.settings c.self.inside.drawn c.self.inside.backups) es c.self.inside.uuids.keys) (sym same) c.self.invariant

pub invariant_of-self-2 : goal.invariant_of-self-2
invariant_of-self-2 c =
    let g = beside_of c.self.inside.settings c.self.inside.drawn c.self.inside.backups in
    let a = c.args in
    let l = c.in-Some.peer.now in
    let u = c.edit-answer.new.self in
    let e = c.edit-answer.ensures in
    stored_written g c.self.inside.by_name (c.get_mut.follows.lender u) a.name.now l u c.in-Some.ensures.value ((c.get_mut.follows.holds u).3 (search rules)) c.self.inside.uuids.keys
    c.law.ensures.peer c.law.ensures.database
    (writes_of g c.self.inside.by_name (c.get_mut.follows.lender u) a.name.now l u c.in-Some.ensures.value ((c.get_mut.follows.holds u).3 (search rules)) (λ p. after_edit p a.id.now a.parent a.deleted a.body.now) c.edit-answer.result e.ok e.err
    (edit_writes a.id.now a.parent a.deleted a.body.now l.1))
    e.filter c.self.invariant
