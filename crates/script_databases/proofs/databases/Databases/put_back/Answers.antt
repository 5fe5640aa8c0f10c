use Rattle.proof_prelude.proofs.{arith, common_steps, ◌≡◌, Some, sym, ap, ◌∙◌, rules, subst, option_copied, Result, OnErr, OnOk}
use Rattle.repl_peer.specs.{after_restore}
use Rattle.script_databases.specs.{IsStored, State, backup_among, backup_at, peer_at, put_back_answer, put_back_by, put_back_of, GivesOrMemory, Refusal, target_refusal, told_as, beside_of, state_of}
use Rattle.script_databases.specs.declared.databases.PutBack.{PutBack}
use Rattle.script_databases.proofs.{at_of, changes, restore_gives, restore_step, restore_uuid, stays, stored}
use Rattle.script_databases.proofs.databases.Databases.put_back.Goals as goal

pub returns : goal.returns
returns c =
    let g = beside_of c.self.inside.settings c.self.inside.drawn c.self.inside.backups in
    let db = c.args.db.now in
    let name = c.args.name.now in
    let old = c.self.inside.by_name in
    let b = c.in-Some.backup.now in
    let l = c.in-Some-get_mut.peer.now in
    let u = c.restore-answer.new.self in
    let e = c.restore-answer.ensures in
    let r = c.restore-answer.result in
    let there = c.in-Some-get_mut.ensures.value in
    let new = c.get_mut.follows.lender u in
    let updates = (c.get_mut.follows.holds u).3 (search rules) in
    let kept : backup_at (state_of g old.entries) db name ≡ Some b = sym (c.find.ensures ∙ (λ i. backup_among c.self.inside.backups (c.in_ok-key.ensures.db i) (c.in_ok-key.ensures.name i))) ∙ ap option_copied c.in-Some.is in
    let Good : Result PutBack Refusal → State → Type 0 = λ x st. GivesOrMemory x (put_back_answer (peer_at st db) (backup_at st db name)) × OnOk x (state_of g new.entries ≡ put_back_by st db (backup_at st db name)) × OnErr x (state_of g new.entries ≡ st) in
    let k = restore_gives _ _ b l.1 u.1 r e.answer e.ok (changes g old new db l u there updates (λ p. after_restore p b) r e.ok) (stays g old new db l u there updates r e.err) in
    let x = put_back_of u.1 (told_as target_refusal r) in
    let answer = subst (λ o. GivesOrMemory x (put_back_answer (peer_at (state_of g old.entries) db) o)) (sym kept) (subst (λ o. GivesOrMemory x (put_back_answer o (Some b))) (sym (at_of old.entries db (Some l) (sym there))) k.0) in
    let ok = subst (λ o. OnOk x (state_of g new.entries ≡ put_back_by (state_of g old.entries) db o)) (sym kept) k.1 in
    let good = subst (Good c.restore_told.result) c.self.view_is (subst (λ x. Good x (state_of g old.entries)) (sym c.restore_told.ensures) (answer, ok, k.2)) in
    record { answer = good.0; ok = good.1; err = good.2 }

pub invariant_of-self : goal.invariant_of-self
invariant_of-self c =
    let same : c.get_mut.follows.lender-at-none.entries ≡ c.self.inside.by_name.entries = first_of (search rules, grind (arith, common_steps)) in
    subst (λ es. IsStored (beside_of c.self.inside.settings c.self.inside.drawn c.self.inside.backups) es c.self.inside.uuids.keys) (sym same) c.self.invariant

pub invariant_of-self-2 : goal.invariant_of-self-2
invariant_of-self-2 c =
    let g = beside_of c.self.inside.settings c.self.inside.drawn c.self.inside.backups in
    let es = c.self.inside.by_name.entries in
    let db = c.args.db.now in
    let l = c.in-Some-get_mut.peer.now in
    let b = c.in-Some.backup.now in
    let u = c.restore-answer.new.self in
    let e = c.restore-answer.ensures in
    let there = at_of es db (Some l) (sym c.in-Some-get_mut.ensures.value) in
    let kept : backup_at (state_of g es) db c.args.name.now ≡ Some b = sym (c.find.ensures ∙ (λ i. backup_among c.self.inside.backups (c.in_ok-key.ensures.db i) (c.in_ok-key.ensures.name i))) ∙ ap option_copied c.in-Some.is in
    stored g c.self.inside.by_name (c.get_mut.follows.lender u) db l u c.in-Some-get_mut.ensures.value ((c.get_mut.follows.holds u).3 (search rules)) c.self.inside.uuids.keys c.law.ensures.peer c.law.ensures.database
    (restore_uuid (state_of g es) db c.args.name.now l.1 u.1 b there kept c.restore-answer.result e.ok e.err) e.filter (restore_step (state_of g es) db c.args.name.now l.1 u.1 b there kept c.restore-answer.result e.ok e.err) c.self.invariant
