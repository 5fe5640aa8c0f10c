use Rattle.proof_prelude.proofs.{List, ℕ, [], Option, option_map, string_bytes, subst, ap}
use Rattle.relay_core.specs.Messages.{Text}
use Rattle.couch_relay.specs.Inbox.{pending}
use Rattle.couch_relay.specs.Runs.{FindsChoice}
use Rattle.couch_relay.proofs.Lines.{none_of}
use Rattle.couch_relay.proofs.Running.{runs, runs_none, runs_until, weaken, weaken_err}
use Rattle.couch_relay.proofs.run.run.Goals as goal

pub returns-in_default-clause-ok : goal.returns-in_default-clause-ok
returns-in_default-clause-ok g c =
    let R = g.R.ScriptRead in
    let F : List ℕ → Option Text → Type 0 = λ xs o. FindsChoice c.args.options.now (R.taken c.args.reader.now) (R.taken c.choice_of.new.reader) (R.ended c.choice_of.new.reader) xs (pending c.choice_of.new.inbox) o in
    runs_none c.args.options.now (R.taken c.args.reader.now) (R.taken c.choice_of.new.reader) (g.W.ScriptWrite.held c.args.writer.now) (pending c.choice_of.new.inbox)
    (subst (λ (o : Option Text). F [] o) (ap (option_map string_bytes) (none_of c.in_ok-choice.field-0 c.in_default.not-Some))
    (subst (λ (xs : List ℕ). F xs (option_map string_bytes c.in_ok-choice.field-0)) c.in_ok-inbox.ensures.pending c.in_ok-choice.ensures.choice))

pub returns-clause-ok : goal.returns-clause-ok
returns-clause-ok g c =
    let R = g.R.ScriptRead in
    let F : List ℕ → Option Text → Type 0 = λ xs o. FindsChoice c.args.options.now (R.taken c.args.reader.now) (R.taken c.choice_of.new.reader) (R.ended c.choice_of.new.reader) xs (pending c.choice_of.new.inbox) o in
    let found =
    subst (λ (o : Option Text). F [] o) (ap (option_map string_bytes) c.in-Some.is)
    (subst (λ (xs : List ℕ). F xs (option_map string_bytes c.in_ok-choice.field-0)) c.in_ok-inbox.ensures.pending c.in_ok-choice.ensures.choice) in
    weaken c.make_requests.result (λ status h. runs c.args.options.now (R.taken c.args.reader.now) (R.taken c.choice_of.new.reader) (g.W.ScriptWrite.held c.args.writer.now) (R.ended c.choice_of.new.reader) (pending c.choice_of.new.inbox) (string_bytes c.in-Some.choice) c.in_ok-requests.requests c.in_ok-requests.ensures found (R.taken c.make_requests.new.reader) (g.W.ScriptWrite.held c.make_requests.new.writer) status h) c.make_requests.ensures.ok

pub returns-clause-err : goal.returns-clause-err
returns-clause-err g c =
    let R = g.R.ScriptRead in
    let F : List ℕ → Option Text → Type 0 = λ xs o. FindsChoice c.args.options.now (R.taken c.args.reader.now) (R.taken c.choice_of.new.reader) (R.ended c.choice_of.new.reader) xs (pending c.choice_of.new.inbox) o in
    let found =
    subst (λ (o : Option Text). F [] o) (ap (option_map string_bytes) c.in-Some.is)
    (subst (λ (xs : List ℕ). F xs (option_map string_bytes c.in_ok-choice.field-0)) c.in_ok-inbox.ensures.pending c.in_ok-choice.ensures.choice) in
    weaken_err c.make_requests.result (λ h. runs_until c.args.options.now (R.taken c.args.reader.now) (R.taken c.choice_of.new.reader) (g.W.ScriptWrite.held c.args.writer.now) (R.ended c.choice_of.new.reader) (pending c.choice_of.new.inbox) (string_bytes c.in-Some.choice) c.in_ok-requests.requests c.in_ok-requests.ensures found (R.taken c.make_requests.new.reader) (g.W.ScriptWrite.held c.make_requests.new.writer) h) c.make_requests.ensures.err
