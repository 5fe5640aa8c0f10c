use Rattle.proof_prelude.proofs.{◌≡◌, ◌⊎◌, Result, Err, inl, inr, refl, sym, ap, subst, ◌∙◌}
use Rattle.doc_json.specs.Document.{Document}
use Rattle.couch_base.specs.{BaseFault, PutGives, put_answer}
use Rattle.couch_base.specs.declared.fault.BaseFault.TheVariants as base
use Rattle.couch_base.specs.declared.fault.Put.{Put}
use Rattle.repl_peer.specs.{PeerValue, new_peer, after_load}
use Rattle.repl_peer.proofs.{load_later}
use Rattle.script_engine.specs.{in_full, gave_up, served_only}
use Rattle.script_databases.specs.{IsTaken, with_peer, told_as, base_refusal}
use Rattle.script_databases.specs.declared.refusal.Refusal.TheVariants as why
use Rattle.write_commands.specs.{put_line}
use Rattle.command_api.proofs.{passes, stops, does, does_nothing, both, gave_up_at, printed, unless_memory, handed_on, refused_memory}
use Rattle.write_commands.proofs.load.make_with.Goals as goal

-- a failed put gives its error, or runs out of memory
put_refused : (fault : BaseFault) (expected : Result Put BaseFault) → PutGives (Err fault) expected → (told_as base_refusal expected ≡ Err (base_refusal fault)) ⊎ (base_refusal fault ≡ why.Memory)
put_refused base.Memory expected h = inr refl
put_refused fault expected h = inl (ap (told_as base_refusal) (sym h))

-- a load keeps the UUID
load_keeps : (d : Document) (l : PeerValue) → (after_load l d).db.uuid ≡ l.db.uuid
load_keeps d l = (load_later l d).db.uuid

pub returns-in_err-peer : goal.returns-in_err-peer
returns-in_err-peer c = refused_memory c.from_residual.result _ c.from_residual.ensures.1 gave_up

pub returns-in_err-put : goal.returns-in_err-put
returns-in_err-put c =
    let d = c.args.document.now in
    let fault = c.in_err-put.field-0.0 in
    let same = ap (λ (l : PeerValue). put_answer l.db d) c.in_ok-peer.ensures.0 in
    handed_on (base_refusal fault) c.from_residual-in_err-put.result _ c.from_residual-in_err-put.ensures.1
    (unless_memory _ (put_refused fault (put_answer (new_peer c.args.uuid).db d) (rw same at c.in_err-put.ensures.answer)) refl
    (λ e. does_nothing (base_refusal fault) (stops _ e) refl))

pub returns-in_err-add : goal.returns-in_err-add
returns-in_err-add c = refused_memory c.from_residual-in_err-add.result _ c.from_residual-in_err-add.ensures.1 (gave_up_at c.in_err-add.ensures.err)

pub returns : goal.returns
returns c =
    let d = c.args.document.now in
    let answer = c.in_ok-put.ensures.answer ∙ ap (λ (l : PeerValue). put_answer l.db d) c.in_ok-peer.ensures.0 in
    let state = c.in_ok-add.ensures.ok ∙ ap (with_peer c.args.databases.now c.args.db.now) (c.in_ok-put.ensures.ok ∙ ap (λ (l : PeerValue). after_load l d) c.in_ok-peer.ensures.0) in
    let text = printed c.in_ok-print_put.ensures c.requires.empty refl in
    in_full (does c.args.databases.now c.print_put.new.answer.items (passes _ (ap (told_as base_refusal) (sym answer)) ∙ both text state))

pub returns-in_err-print_put : goal.returns-in_err-print_put
returns-in_err-print_put c =
    let d = c.args.document.now in
    let answer = c.in_ok-put.ensures.answer ∙ ap (λ (l : PeerValue). put_answer l.db d) c.in_ok-peer.ensures.0 in
    let state = c.in_ok-add.ensures.ok ∙ ap (with_peer c.args.databases.now c.args.db.now) (c.in_ok-put.ensures.ok ∙ ap (λ (l : PeerValue). after_load l d) c.in_ok-peer.ensures.0) in
    let line = put_line c.args.db.now d c.in_ok-put.put in
    refused_memory c.from_residual-in_err-print_put.result _ c.from_residual-in_err-print_put.ensures.1 (served_only line (does c.args.databases.now line (passes _ (ap (told_as base_refusal) (sym answer)) ∙ both refl state)))

-- the new peer has the UUID, and neither sessions nor logs
pub add-requires-clause-fresh : goal.add-requires-clause-fresh
add-requires-clause-fresh c =
    let is = c.in_ok-put.ensures.ok ∙ ap (λ (l : PeerValue). after_load l c.args.document.now) c.in_ok-peer.ensures.0 in
    λ taken. c.requires.fresh (subst (IsTaken c.args.databases.now) (ap (λ (l : PeerValue). l.db.uuid) is ∙ load_keeps c.args.document.now (new_peer c.args.uuid)) taken)

pub add-requires-clause-unused : goal.add-requires-clause-unused
add-requires-clause-unused c =
    let is = c.in_ok-put.ensures.ok ∙ ap (λ (l : PeerValue). after_load l c.args.document.now) c.in_ok-peer.ensures.0 in
    (ap (λ (l : PeerValue). l.sessions) is, ap (λ (l : PeerValue). l.outgoing) is)
