use Rattle.proof_prelude.proofs.{◌≡◌, ℕ, List, Result, Ok, Err, refl, sym, ap, ◌∙◌}
use Rattle.repl_peer.specs.{BackupValue}
use Rattle.script_engine.specs.{in_full, served_only}
use Rattle.script_databases.specs.{State, backed_answer, backed_told, backed_by, Refusal}
use Rattle.write_commands.specs.{BackupAsk, backup_asked, backup_done, backed_line}
use Rattle.command_api.proofs.{passes, stops, does, does_nothing, both, printed, unless_memory, handed_on, refused_memory}
use Rattle.write_commands.proofs.backup.BackupCommandRefLine.serve.Goals as goal

-- a backup that was saved
kept : (old new : State) (ask : BackupAsk) (text : List ℕ) (seq : ℕ) (copy : Result BackupValue Refusal) → backed_answer old ask.db ask.name ≡ copy → backed_told copy ≡ Ok seq → new ≡ backed_by old ask.db ask.name copy → text ≡ backed_line ask.db ask.name seq → backup_done old ask ≡ Ok (text, new)
kept old new ask text seq (Ok copy) is told left line =
    let same : copy.db.update_seq ≡ seq = cc told in
    passes _ is ∙ both (line ∙ ap (backed_line ask.db ask.name) (sym same)) left
kept old new ask text seq (Err refusal) is told left line = cc told

-- a backup that failed
refused : (old : State) (ask : BackupAsk) (refusal : Refusal) (copy : Result BackupValue Refusal) → backed_answer old ask.db ask.name ≡ copy → backed_told copy ≡ Err refusal → backup_done old ask ≡ Err refusal
refused old ask refusal (Ok copy) is told = cc told
refused old ask refusal (Err why) is told = stops _ is ∙ cc told

pub returns-in_err-seq : goal.returns-in_err-seq
returns-in_err-seq g c =
    handed_on c.in_err-seq.field-0.0 c.from_residual.result _ c.from_residual.ensures.1
    (unless_memory _ c.in_err-seq.ensures.answer c.in_err-seq.ensures.err
    (λ e. does_nothing c.in_err-seq.field-0.0 (refused c.args.databases.now (backup_asked c.args.self.now) c.in_err-seq.field-0.0 _ refl e) c.in_err-seq.ensures.err))

pub returns : goal.returns
returns g c =
    in_full (does c.args.databases.now c.print.new.answer.items
    (kept c.args.databases.now _ (backup_asked c.args.self.now) _ c.in_ok-seq.seq _ refl c.in_ok-seq.ensures.answer c.in_ok-seq.ensures.ok (printed c.in_ok-print.ensures c.requires.empty refl)))

pub returns-in_err-print : goal.returns-in_err-print
returns-in_err-print g c =
    let line = backed_line c.args.self.now.db.now c.args.self.now.name.now c.in_ok-seq.seq in
    refused_memory c.from_residual-in_err-print.result _ c.from_residual-in_err-print.ensures.1 (served_only line (does c.args.databases.now line
    (kept c.args.databases.now _ (backup_asked c.args.self.now) line c.in_ok-seq.seq _ refl c.in_ok-seq.ensures.answer c.in_ok-seq.ensures.ok refl)))
