use Rattle.proof_prelude.proofs.{◌≡◌, ◌⊎◌, inl, inr, ℕ, List, Result, Ok, Err, refl, sym, ap, ◌∙◌}
use Rattle.doc_json.specs.{Choice}
use Rattle.repl_log.specs.{GivesUnlessMemory, log_text, LogFault, EntryValue}
use Rattle.repl_log.specs.declared.fault.LogFault.TheVariants as faults
use Rattle.repl_log.specs.declared.replication.RepId.{RepId}
use Rattle.repl_peer.specs.{PeerValue, rep_between}
use Rattle.script_engine.specs.{in_full, gave_up}
use Rattle.script_databases.specs.{told_as, log_refusal}
use Rattle.script_databases.specs.declared.refusal.Refusal.TheVariants as why
use Rattle.command_api.specs.{ended}
use Rattle.read_commands.specs.{log_held, Side}
use Rattle.command_api.proofs.{passes, stops, is_found, is_missing, reads, printed, unless_memory, handed_on, refused_memory}
use Rattle.read_commands.proofs.log.LogCommandRefLine.serve.Goals as goal

pub returns-in_default : goal.returns-in_default
returns-in_default g c = in_full (reads (Err why.NoDatabase) (stops _ (is_missing why.NoDatabase (sym c.in_default.ensures))))

pub returns-in_default-find : goal.returns-in_default-find
returns-in_default-find g c = in_full (reads (Err why.NoDatabase) (passes _ (is_found why.NoDatabase (sym c.in-Some.ensures)) ∙ stops _ (is_missing why.NoDatabase (sym c.in_default-find.ensures))))

pub returns-in_err-chosen : goal.returns-in_err-chosen
returns-in_err-chosen g c = handed_on c.in_err-chosen.field-0.0 c.from_residual.result _ c.from_residual.ensures.1 (unless_memory _ c.in_err-chosen.ensures refl (λ e. reads (Err c.in_err-chosen.field-0.0) (passes _ (is_found why.NoDatabase (sym c.in-Some.ensures)) ∙ passes _ (is_found why.NoDatabase (sym c.in-Some-find.ensures)) ∙ stops _ e)))

pub returns-in_err-rep : goal.returns-in_err-rep
returns-in_err-rep g c = refused_memory c.from_residual-in_err-rep.result _ c.from_residual-in_err-rep.ensures.1 gave_up

pub log_held-requires : goal.log_held-requires
log_held-requires g c =
    let s = c.in-Some.source.now.1 in
    let t = c.in-Some-find.target.now.1 in
    c.in_ok-rep.ensures.id ∙ ap (λ (r : RepId). rep_between s t r.chosen) (sym c.in_ok-rep.ensures.id)

pub returns-in_err-log : goal.returns-in_err-log
returns-in_err-log g c = refused_memory c.from_residual-in_err-log.result _ c.from_residual-in_err-log.ensures.1 gave_up

-- an error of the log's text
log_refused : (fault : LogFault) (expected : Result (List ℕ) LogFault) → GivesUnlessMemory (Err fault) expected → (told_as log_refusal expected ≡ Err (log_refusal fault)) ⊎ (log_refusal fault ≡ why.Memory)
log_refused faults.BadMoment expected h = inl (ap (told_as log_refusal) (sym h))
log_refused (faults.Older stored) expected h = inl (ap (told_as log_refusal) (sym h))
log_refused faults.EmptyLog expected h = inl (ap (told_as log_refusal) (sym h))
log_refused faults.Memory expected h = inr refl

-- the text of the log of the selection's replication
same_text : (side : Side) (s t : PeerValue) (rep : RepId) (chosen : Choice) (log : List EntryValue) → rep ≡ rep_between s t chosen → log ≡ log_held side s t rep.chosen → log_text rep log ≡ log_text (rep_between s t chosen) (log_held side s t chosen)
same_text side s t rep chosen log is held = ap (log_text rep) (held ∙ ap (λ (r : RepId). log_held side s t r.chosen) is) ∙ ap (λ (r : RepId). log_text r (log_held side s t chosen)) is

pub returns-in_err-text : goal.returns-in_err-text
returns-in_err-text g c =
    let s = c.in-Some.source.now.1 in
    let t = c.in-Some-find.target.now.1 in
    let id = c.in_ok-rep.ensures.id ∙ ap (rep_between s t) c.as_ref.ensures.value in
    let same = same_text c.args.self.now.side s t c.in_ok-rep.rep c.in_ok-chosen.chosen c.in_ok-log.log id c.in_ok-log.ensures in
    let fault = c.in_err-text.field-0.0 in
    handed_on (log_refusal fault) c.from_residual-in_err-text.result _ c.from_residual-in_err-text.ensures.1
    (unless_memory (told_as log_refusal (log_text c.in_ok-rep.rep c.in_ok-log.log)) (log_refused fault (log_text c.in_ok-rep.rep c.in_ok-log.log) c.in_err-text.ensures.answer) refl
    (λ e. reads (Err (log_refusal fault))
    (passes _ (is_found why.NoDatabase (sym c.in-Some.ensures)) ∙ passes _ (is_found why.NoDatabase (sym c.in-Some-find.ensures)) ∙ passes _ c.in_ok-chosen.ensures ∙ stops _ (ap (told_as log_refusal) (sym same) ∙ e))))

pub returns : goal.returns
returns g c =
    let s = c.in-Some.source.now.1 in
    let t = c.in-Some-find.target.now.1 in
    let id = c.in_ok-rep.ensures.id ∙ ap (rep_between s t) c.as_ref.ensures.value in
    let same = same_text c.args.self.now.side s t c.in_ok-rep.rep c.in_ok-chosen.chosen c.in_ok-log.log id c.in_ok-log.ensures in
    let text = printed c.in_ok-print.ensures c.requires.empty (ap ended c.as_slice.ensures.value) in
    in_full (reads (Ok c.print.new.answer.items)
    (passes _ (is_found why.NoDatabase (sym c.in-Some.ensures)) ∙ passes _ (is_found why.NoDatabase (sym c.in-Some-find.ensures)) ∙ passes _ c.in_ok-chosen.ensures
    ∙ passes _ (ap (told_as log_refusal) (sym same ∙ sym c.in_ok-text.ensures.answer)) ∙ ap Ok (sym text)))

pub returns-in_err-print : goal.returns-in_err-print
returns-in_err-print g c = refused_memory c.from_residual-in_err-print.result _ c.from_residual-in_err-print.ensures.1 gave_up
