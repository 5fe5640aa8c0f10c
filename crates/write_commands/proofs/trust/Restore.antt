-- `restore` fails only with the errors that it may have.
use Rattle.proof_prelude.proofs.{◌≡◌, ◌⊎◌, inl, inr, List, ℕ, Option, Some, None, Result, Ok, Err, refl, sym, subst, arith, common_steps, eq-eqb}
use Rattle.repl_peer.specs.{BackupValue, PeerValue}
use Rattle.rev_core.specs.{◌>>=◌}
use Rattle.script_engine.specs.{Told}
use Rattle.script_databases.specs.{IsConsistent, State, backup_at, peer_at, put_back_answer, put_back_by, Refusal}
use Rattle.script_databases.specs.declared.refusal.Refusal.TheVariants as why
use Rattle.command_api.specs.Telling.{Does}
use Rattle.write_commands.specs.{FailsRestoring, IsRestored, RestoreAsk, Restores, restore_done, restored_line}
use Rattle.script_databases.proofs.{own_uuid}

put_back_fails : (old : State) → IsConsistent old → (db name : List ℕ) (refusal : Refusal) (o : Option PeerValue) → peer_at old db ≡ o → (k : Option BackupValue) → backup_at old db name ≡ k → put_back_answer o k ≡ Err refusal
    → (refusal ≡ why.NoDatabase) ⊎ (refusal ≡ why.NoBackup) ⊎ (refusal ≡ why.IsTarget) ⊎ (refusal ≡ why.LifeFull)
put_back_fails old h db name refusal None at k kept e = grind (arith, common_steps)
put_back_fails old h db name refusal (Some p) at None kept e = grind (arith, common_steps)
put_back_fails old h db name refusal (Some p) at (Some b) kept e = (let same = eq-eqb _ _ (own_uuid old h db name p b at kept) in grind (arith, common_steps, same))

unbound : {A B : Type 0} (r : Result A Refusal) (f : A → B) (refusal : Refusal) → (r >>= λ (x : A). Ok (f x)) ≡ Err refusal → r ≡ Err refusal
unbound r f refusal e = grind (arith, common_steps)

fails : (refusal : Refusal) → (refusal ≡ why.NoDatabase) ⊎ (refusal ≡ why.NoBackup) ⊎ (refusal ≡ why.IsTarget) ⊎ (refusal ≡ why.LifeFull) → FailsRestoring refusal
fails refusal h = elim h [ inl e ↦ subst FailsRestoring (sym e) tt | inr (inl e) ↦ subst FailsRestoring (sym e) tt | inr (inr (inl e)) ↦ subst FailsRestoring (sym e) tt | inr (inr (inr e)) ↦ subst FailsRestoring (sym e) tt ]

pub restores_known : (old new : State) → IsConsistent old → (ask : RestoreAsk) (told : Told) → Restores old ask told new → IsRestored told
restores_known old new h ask told d = go (restore_done old ask) refl d
  where
    go : (r : Result (List ℕ × State) Refusal) → restore_done old ask ≡ r → Does r old told new → IsRestored told
    go (Ok done) e x = subst IsRestored (sym x.0) tt
    go (Err refusal) e x =
        subst IsRestored (sym x.0) (
          refusal,
          refl,
          fails refusal (put_back_fails old h ask.db ask.name refusal (peer_at old ask.db) refl (backup_at old ask.db ask.name) refl
              (unbound (put_back_answer (peer_at old ask.db) (backup_at old ask.db ask.name)) (λ back. (restored_line ask.db ask.name back, put_back_by old ask.db (backup_at old ask.db ask.name))) refusal e)),
        )
