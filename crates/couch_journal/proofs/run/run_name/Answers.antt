use Rattle.proof_prelude.proofs.{[], inl, refl, subst, All-nil, Appends-nil}
use Rattle.couch_journal.specs.Runs.{RunsName}
use Rattle.couch_journal.proofs.run.run_name.Goals as goal

pub returns-in-Ok-clause-ran : goal.returns-in-Ok-clause-ran
returns-in-Ok-clause-ran g c =
    let t = c.run_named.ensures.ran in
    (t.0, t.1, t.2, t.3, subst (λ z. RunsName z (g.R.ScriptRead.ended c.run_named.new.reader) t.0 t.1 c.run_named.result) c.in-Ok.ensures.ok t.4)

pub returns-in-Err-clause-ran : goal.returns-in-Err-clause-ran
returns-in-Err-clause-ran g c =
    ([], [], Appends-nil (g.R.ScriptRead.taken c.args.reader.now), Appends-nil (g.W.ScriptWrite.held c.args.writer.now), inl ([], [], [], refl, All-nil _, refl))
