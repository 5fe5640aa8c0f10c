use Rattle.proof_prelude.proofs.{◌≡◌, Err, refl, sym, ap, subst, ◌∙◌}
use Rattle.serde_json.specs.Data.{Data}
use Rattle.json_values.specs.{line_view, LineValue}
use Rattle.script_engine.specs.{Told, MayTell, in_full}
use Rattle.script_databases.specs.{State, name_of}
use Rattle.script_databases.specs.declared.refusal.Refusal.TheVariants as why
use Rattle.commands.specs.{AnswersAsked, asked_as, asked_in, load, edit, show, doc, changes, log, audit, replicate, backup, restore, compare, conflicts, docs, info, ledger, sync, CommandName}
use Rattle.commands.proofs.{word_answered}
use Rattle.commands.proofs.words.serve.Goals as goal

-- a result of a command's request is a result of the request
by_word : {old new : State} {told : Told} (d : Data) (word found : CommandName) → asked_in d ≡ asked_as found d → found ≡ word → MayTell AnswersAsked old (asked_as word d) told new → MayTell AnswersAsked old (asked_in d) told new
by_word {old = old} {new = new} {told = told} d word found e is h = subst (λ a. MayTell AnswersAsked old a told new) (sym (e ∙ ap (λ w. asked_as w d) is)) h

-- a result of the request of a line's value is a result of the line's request
of_line : {old new : State} {told : Told} {v w : LineValue} → v ≡ w → MayTell AnswersAsked old (asked_in (line_view v)) told new → MayTell AnswersAsked old (asked_in (line_view w)) told new
of_line {old = old} {new = new} {told = told} is h = subst (λ x. MayTell AnswersAsked old (asked_in (line_view x)) told new) is h

pub returns-in_default-clause-told : goal.returns-in_default-clause-told
returns-in_default-clause-told g c = of_line c.value.ensures (subst (λ a. MayTell AnswersAsked c.args.databases.now a (Err (name_of why.BadCommand)) c.args.databases.now) (sym c.in_default.ensures) (in_full (refl, refl)))

pub returns-in-Load-clause-told : goal.returns-in-Load-clause-told
returns-in-Load-clause-told g c = by_word _ _ _ (subst (λ v. asked_in (line_view v) ≡ asked_as c.in-Some.word (line_view v)) c.value.ensures c.in-Some.ensures) c.in-Load.is (word_answered load (λ ask t a. a) _ c.serve_whole.ensures.told)

pub returns-in-Edit-clause-told : goal.returns-in-Edit-clause-told
returns-in-Edit-clause-told g c = by_word _ _ _ (subst (λ v. asked_in (line_view v) ≡ asked_as c.in-Some.word (line_view v)) c.value.ensures c.in-Some.ensures) c.in-Edit.is (word_answered edit (λ ask t a. a) _ c.serve_whole-in-Edit.ensures.told)

pub returns-in-Show-clause-told : goal.returns-in-Show-clause-told
returns-in-Show-clause-told g c = by_word _ _ _ (subst (λ v. asked_in (line_view v) ≡ asked_as c.in-Some.word (line_view v)) c.value.ensures c.in-Some.ensures) c.in-Show.is (word_answered show (λ ask t a. a) _ c.serve_whole-in-Show.ensures.told)

pub returns-in-Doc-clause-told : goal.returns-in-Doc-clause-told
returns-in-Doc-clause-told g c = by_word _ _ _ (subst (λ v. asked_in (line_view v) ≡ asked_as c.in-Some.word (line_view v)) c.value.ensures c.in-Some.ensures) c.in-Doc.is (word_answered doc (λ ask t a. a) _ c.serve_whole-in-Doc.ensures.told)

pub returns-in-Changes-clause-told : goal.returns-in-Changes-clause-told
returns-in-Changes-clause-told g c = by_word _ _ _ (subst (λ v. asked_in (line_view v) ≡ asked_as c.in-Some.word (line_view v)) c.value.ensures c.in-Some.ensures) c.in-Changes.is (word_answered changes (λ ask t a. a) _ c.serve_whole-in-Changes.ensures.told)

pub returns-in-Log-clause-told : goal.returns-in-Log-clause-told
returns-in-Log-clause-told g c = by_word _ _ _ (subst (λ v. asked_in (line_view v) ≡ asked_as c.in-Some.word (line_view v)) c.value.ensures c.in-Some.ensures) c.in-Log.is (word_answered log (λ ask t a. a) _ c.serve_whole-in-Log.ensures.told)

pub returns-in-Audit-clause-told : goal.returns-in-Audit-clause-told
returns-in-Audit-clause-told g c = by_word _ _ _ (subst (λ v. asked_in (line_view v) ≡ asked_as c.in-Some.word (line_view v)) c.value.ensures c.in-Some.ensures) c.in-Audit.is (word_answered audit (λ ask t a. a) _ c.serve_whole-in-Audit.ensures.told)

pub returns-in-Replicate-clause-told : goal.returns-in-Replicate-clause-told
returns-in-Replicate-clause-told g c = by_word _ _ _ (subst (λ v. asked_in (line_view v) ≡ asked_as c.in-Some.word (line_view v)) c.value.ensures c.in-Some.ensures) c.in-Replicate.is (word_answered replicate (λ ask t a. a) _ c.serve_whole-in-Replicate.ensures.told)

pub returns-in-Backup-clause-told : goal.returns-in-Backup-clause-told
returns-in-Backup-clause-told g c = by_word _ _ _ (subst (λ v. asked_in (line_view v) ≡ asked_as c.in-Some.word (line_view v)) c.value.ensures c.in-Some.ensures) c.in-Backup.is (word_answered backup (λ ask t a. a) _ c.serve_whole-in-Backup.ensures.told)

pub returns-in-Restore-clause-told : goal.returns-in-Restore-clause-told
returns-in-Restore-clause-told g c = by_word _ _ _ (subst (λ v. asked_in (line_view v) ≡ asked_as c.in-Some.word (line_view v)) c.value.ensures c.in-Some.ensures) c.in-Restore.is (word_answered restore (λ ask t a. a) _ c.serve_whole-in-Restore.ensures.told)

pub returns-in-Compare-clause-told : goal.returns-in-Compare-clause-told
returns-in-Compare-clause-told g c = by_word _ _ _ (subst (λ v. asked_in (line_view v) ≡ asked_as c.in-Some.word (line_view v)) c.value.ensures c.in-Some.ensures) c.in-Compare.is (word_answered compare (λ ask t a. a) _ c.begin_in.ensures.told)

pub returns-in-Conflicts-clause-told : goal.returns-in-Conflicts-clause-told
returns-in-Conflicts-clause-told g c = by_word _ _ _ (subst (λ v. asked_in (line_view v) ≡ asked_as c.in-Some.word (line_view v)) c.value.ensures c.in-Some.ensures) c.in-Conflicts.is (word_answered conflicts (λ ask t a. a) _ c.begin_in-in-Conflicts.ensures.told)

pub returns-in-Docs-clause-told : goal.returns-in-Docs-clause-told
returns-in-Docs-clause-told g c = by_word _ _ _ (subst (λ v. asked_in (line_view v) ≡ asked_as c.in-Some.word (line_view v)) c.value.ensures c.in-Some.ensures) c.in-Docs.is (word_answered docs (λ ask t a. a) _ c.begin_in-in-Docs.ensures.told)

pub returns-in-Info-clause-told : goal.returns-in-Info-clause-told
returns-in-Info-clause-told g c = by_word _ _ _ (subst (λ v. asked_in (line_view v) ≡ asked_as c.in-Some.word (line_view v)) c.value.ensures c.in-Some.ensures) c.in-Info.is (word_answered info (λ ask t a. a) _ c.serve_whole-in-Info.ensures.told)

pub returns-in-Ledger-clause-told : goal.returns-in-Ledger-clause-told
returns-in-Ledger-clause-told g c = by_word _ _ _ (subst (λ v. asked_in (line_view v) ≡ asked_as c.in-Some.word (line_view v)) c.value.ensures c.in-Some.ensures) c.in-Ledger.is (word_answered ledger (λ ask t a. a) _ c.serve_whole-in-Ledger.ensures.told)

pub returns-in-Sync-clause-told : goal.returns-in-Sync-clause-told
returns-in-Sync-clause-told g c = by_word _ _ _ (subst (λ v. asked_in (line_view v) ≡ asked_as c.in-Some.word (line_view v)) c.value.ensures c.in-Some.ensures) c.in-Sync.is (word_answered sync (λ ask t a. a) _ c.serve_whole-in-Sync.ensures.told)
