use Rattle.proof_prelude.proofs.{arith, common_steps, ◌≡◌, sym, rules, subst, Some, Result, OnErr, OnOk}
use Rattle.couch_base.specs.declared.fault.Put.{Put}
use Rattle.repl_peer.specs.{after_load}
use Rattle.repl_network.proofs.{load_writes}
use Rattle.script_databases.specs.{IsStored, State, load_answer, loaded_at, peer_at, GivesOrMemory, Refusal, base_refusal, told_as, beside_of, state_of}
use Rattle.script_databases.proofs.{at_of, changes, load_gives, stays, stored_written, writes_of}
use Rattle.script_databases.proofs.databases.Databases.load.Goals as goal

pub returns : goal.returns
returns c =
    let g = beside_of c.self.inside.settings c.self.inside.drawn c.self.inside.backups in
    let old = c.self.inside.by_name in
    let name = c.args.name.now in
    let l = c.in-Some.peer.now in
    let u = c.load-answer.new.self in
    let e = c.load-answer.ensures in
    let r = c.load-answer.result in
    let there = c.in-Some.ensures.value in
    let new = c.get_mut.follows.lender u in
    let updates = (c.get_mut.follows.holds u).3 (search rules) in
    let Good : Result Put Refusal → State → Type 0 = λ x st. GivesOrMemory x (load_answer (peer_at st name) c.args.doc.now) × OnOk x (state_of g new.entries ≡ loaded_at st name c.args.doc.now) × OnErr x (state_of g new.entries ≡ st) in
    let k = load_gives _ _ r _ e.answer (changes g old new name l u there updates (λ p. after_load p c.args.doc.now) r e.ok) (stays g old new name l u there updates r e.err) in
    let good = subst (Good c.load_told.result) c.self.view_is (subst (λ x. Good x (state_of g old.entries)) (sym c.load_told.ensures) (subst (λ o. GivesOrMemory (told_as base_refusal r) (load_answer o c.args.doc.now)) (sym (at_of old.entries name (Some l) (sym there))) k.0, k.1, k.2)) in
    record { answer = good.0; ok = good.1; err = good.2 }

pub invariant_of-self : goal.invariant_of-self
invariant_of-self c =
    let same : c.get_mut.follows.lender-at-none.entries ≡ c.self.inside.by_name.entries = first_of (search rules, grind (arith, common_steps)) in
    subst (λ es. IsStored (beside_of c.self.inside.settings c.self.inside.drawn c.self.inside.backups) es c.self.inside.uuids.keys) (sym same) c.self.invariant

pub invariant_of-self-2 : goal.invariant_of-self-2
invariant_of-self-2 c =
    let g = beside_of c.self.inside.settings c.self.inside.drawn c.self.inside.backups in
    let l = c.in-Some.peer.now in
    let u = c.load-answer.new.self in
    let e = c.load-answer.ensures in
    stored_written g c.self.inside.by_name (c.get_mut.follows.lender u) c.args.name.now l u c.in-Some.ensures.value ((c.get_mut.follows.holds u).3 (search rules)) c.self.inside.uuids.keys
    c.law.ensures.peer c.law.ensures.database (writes_of g c.self.inside.by_name (c.get_mut.follows.lender u) c.args.name.now l u c.in-Some.ensures.value ((c.get_mut.follows.holds u).3 (search rules)) (λ p. after_load p c.args.doc.now) c.load-answer.result e.ok e.err (load_writes c.args.doc.now l.1))
    e.filter c.self.invariant
