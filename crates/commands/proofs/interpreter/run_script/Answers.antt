use Rattle.proof_prelude.proofs.{refl, [], Some, Appends, Appends-nil, Consumes}
use Rattle.script_engine.specs.declared.fault.ScriptFault.TheVariants.{Memory}
use Rattle.script_engine.specs.{Gives}
use Rattle.script_engine.proofs.{LeavesAs-memory, IsFaultOf-left, SoFar-not_begun, SoFar-took, not_read}
use Rattle.commands.proofs.{some_end, some_state, some_trust, same_start, same_trust, until_trust}
use Rattle.commands.proofs.interpreter.run_script.Goals as goal

pub returns-in-Err-clause-fault : goal.returns-in-Err-clause-fault
returns-in-Err-clause-fault g c =
    let left = LeavesAs-memory c.leave.result _ _ c.from.ensures c.leave.ensures.fault in
    let s = SoFar-not_begun (g.R.ScriptRead.left c.args.reader.now) _ (g.W.ScriptWrite.held c.leave.new.writer) c.leave.result c.leave.ensures.kept left in
    (s.input, s.text, s.gives, s.written, s.answered, IsFaultOf-left Memory c.leave.result _ _ _ _ _ _ _ _ refl refl refl left)

pub returns-in-Err-clause-trust_until : goal.returns-in-Err-clause-trust_until
returns-in-Err-clause-trust_until g c =
    let left = LeavesAs-memory c.leave.result _ _ c.from.ensures c.leave.ensures.fault in
    let s = SoFar-not_begun (g.R.ScriptRead.left c.args.reader.now) _ (g.W.ScriptWrite.held c.leave.new.writer) c.leave.result c.leave.ensures.kept left in
    (s.input, s.text, s.gives, s.written, s.answered)

pub returns-in-Err-clause-read : goal.returns-in-Err-clause-read
returns-in-Err-clause-read g c = λ e. absurd (not_read Memory c.leave.result _ _ _ refl (LeavesAs-memory c.leave.result _ _ c.from.ensures c.leave.ensures.fault) e)

pub returns-clause-answers : goal.returns-clause-answers
returns-clause-answers g c = some_state _ _ (λ z. Gives (g.R.ScriptRead.left c.args.reader.now) z) _ _ c.in-Ok.ensures.none _ c.run_on-ended.result.0 c.run_on-ended.ensures.answers

pub returns-clause-fault : goal.returns-clause-fault
returns-clause-fault g c = same_start _ _ (λ z. Gives (g.R.ScriptRead.left c.args.reader.now) z) _ _ c.in-Ok.ensures.none _ _ _ _ _ _ c.run_on-ended.result.0 c.run_on-ended.ensures.fault

pub returns-clause-read : goal.returns-clause-read
returns-clause-read g c = some_end _ _ (λ z. Consumes (g.R.ScriptRead.left c.args.reader.now) (g.R.ScriptRead.left c.run_on-ended.new.reader) z) _ _ c.in-Ok.ensures.none _ c.run_on-ended.result.0 c.run_on-ended.ensures.read

pub returns-clause-trust : goal.returns-clause-trust
returns-clause-trust g c = some_trust _ _ (λ z. Gives (g.R.ScriptRead.left c.args.reader.now) z) _ _ c.in-Ok.ensures.none _ c.run_on-ended.result.0 c.run_on-ended.ensures.answers

pub returns-clause-trust_until : goal.returns-clause-trust_until
returns-clause-trust_until g c = same_trust _ _ (λ z. Gives (g.R.ScriptRead.left c.args.reader.now) z) _ _ c.in-Ok.ensures.none _ _ _ _ _ _ c.run_on-ended.result.0 c.run_on-ended.ensures.fault

-- ---- what the reads returned

pub returns-in-Err-clause-took_until : goal.returns-in-Err-clause-took_until
returns-in-Err-clause-took_until g c =
    let left = LeavesAs-memory c.leave.result _ _ c.from.ensures c.leave.ensures.fault in
    let taken = g.R.ScriptRead.taken c.args.reader.now in
    let s = SoFar-took taken taken [] (Appends-nil taken) (SoFar-not_begun (Some []) _ (g.W.ScriptWrite.held c.leave.new.writer) c.leave.result c.leave.ensures.kept left) in
    (s.0, s.1, s.2, s.3, s.4)

pub returns-in-Err-clause-took_in : goal.returns-in-Err-clause-took_in
returns-in-Err-clause-took_in g c = λ e. absurd (not_read Memory c.leave.result _ _ _ refl (LeavesAs-memory c.leave.result _ _ c.from.ensures c.leave.ensures.fault) e)

pub returns-clause-took : goal.returns-clause-took
returns-clause-took g c = some_trust _ _ (λ z. Appends (g.R.ScriptRead.taken c.args.reader.now) (g.R.ScriptRead.taken c.run_on-ended.new.reader) z) _ _ c.in-Ok.ensures.none _ c.run_on-ended.result.0 c.run_on-ended.ensures.took

pub returns-clause-took_until : goal.returns-clause-took_until
returns-clause-took_until g c = until_trust _ _ (λ z. Appends (g.R.ScriptRead.taken c.args.reader.now) (g.R.ScriptRead.taken c.run_on-ended.new.reader) z) _ _ c.in-Ok.ensures.none c.run_on-ended.result.0 c.run_on-ended.ensures.took_until

pub returns-clause-took_in : goal.returns-clause-took_in
returns-clause-took_in g c = some_end _ _ (λ z. Appends (g.R.ScriptRead.taken c.args.reader.now) (g.R.ScriptRead.taken c.run_on-ended.new.reader) z) _ _ c.in-Ok.ensures.none _ c.run_on-ended.result.0 c.run_on-ended.ensures.took_in
