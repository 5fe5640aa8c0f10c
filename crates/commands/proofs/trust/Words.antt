-- The output of a command has its guarantee.
use Rattle.proof_prelude.proofs.{◌≡◌, List, ℕ, codes, Bool, true, false, if◌then◌else◌, Result, Ok, Err, bytes_eq, refl, subst}
use Rattle.serde_json.specs.Data.{Data}
use Rattle.script_engine.specs.{Told}
use Rattle.script_databases.specs.{IsConsistent, Refusal, State}
use Rattle.script_databases.proofs.{same_Ok}
use Rattle.command_api.specs.{seen_as}
use Rattle.command_api.specs.Checks.{needed}
use Rattle.command_api.specs.Members.{text_at}
use Rattle.command_api.proofs.{bound}
use Rattle.commands.specs.{Asked, CommandName, WordsAnswer, asked_as, asked_in, audit, replicate, restore, sync, IsTrusted}
use Rattle.commands.specs.words.{asked_by}
use Rattle.commands.specs.declared.words.CommandName.TheVariants as word
use Rattle.write_commands.specs.Sync.{sync_in}
use Rattle.write_commands.proofs.{AreTurned, restores_known, reports_covered, sync_turned, syncs_met}
use Rattle.read_commands.proofs.{audits_clean}

-- ---- both directions of a `sync` line are between the same two databases

abbrev pub IsTurned : Asked → Type 0
IsTurned (sync ask) = AreTurned ask
IsTurned ask = Unit {0}

seen_turned : {K : Type 0} (f : K → Asked) (r : Result K Refusal) → ((k : K) → r ≡ Ok k → IsTurned (f k)) → (asked : Asked) → seen_as f r ≡ Ok asked → IsTurned asked
seen_turned f (Ok k) h asked e = subst IsTurned (same_Ok (f k) asked e) (h k refl)
seen_turned f (Err refusal) h asked e = cc

as_turned : (w : CommandName) (d : Data) (asked : Asked) → asked_as w d ≡ Ok asked → IsTurned asked
as_turned word.Sync d = seen_turned sync (sync_in d) (sync_turned d)
as_turned w d = seen_turned _ _ (λ _ _. tt)

either : (b : Bool) (w : CommandName) (d : Data) (rest : Result Asked Refusal) → ((asked : Asked) → rest ≡ Ok asked → IsTurned asked) → (asked : Asked) → (if b then asked_as w d else rest) ≡ Ok asked → IsTurned asked
either true w d rest h = as_turned w d
either false w d rest h = h

by_turned : (name : List ℕ) (d : Data) (asked : Asked) → asked_by name d ≡ Ok asked → IsTurned asked
by_turned name d =
    let is = λ (text : List ℕ). bytes_eq name text in
    either (is (codes "load")) word.Load d _ (either (is (codes "edit")) word.Edit d _ (either (is (codes "show")) word.Show d _ (either (is (codes "doc")) word.Doc d _
    (either (is (codes "changes")) word.Changes d _ (either (is (codes "log")) word.Log d _ (either (is (codes "audit")) word.Audit d _ (either (is (codes "replicate")) word.Replicate d _
    (either (is (codes "backup")) word.Backup d _ (either (is (codes "restore")) word.Restore d _ (either (is (codes "compare")) word.Compare d _ (either (is (codes "conflicts")) word.Conflicts d _
    (either (is (codes "docs")) word.Docs d _ (either (is (codes "info")) word.Info d _ (either (is (codes "ledger")) word.Ledger d _ (either (is (codes "sync")) word.Sync d _ (λ asked e. cc))))))))))))))))

pub in_turned : (d : Data) (asked : Asked) → asked_in d ≡ Ok asked → IsTurned asked
in_turned d asked e =
    let k = bound (needed (text_at (codes "do") d)) _ asked e in
    by_turned k.0 d asked k.2

-- ---- the guarantee

pub words_trusted : (old new : State) → IsConsistent old → IsConsistent new → (ask : Asked) → IsTurned ask → (told : Told) → WordsAnswer old ask told new → IsTrusted ask told old new
words_trusted old new h h' (audit ask) turned told d = audits_clean old new h ask told d
words_trusted old new h h' (replicate ask) turned told d = reports_covered old new h h' ask told d
words_trusted old new h h' (restore ask) turned told d = restores_known old new h ask told d
words_trusted old new h h' (sync ask) turned told d = syncs_met old new h h' ask turned told d
words_trusted old new h h' ask turned told d = tt
