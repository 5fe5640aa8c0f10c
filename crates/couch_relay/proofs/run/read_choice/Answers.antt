use Rattle.proof_prelude.proofs.{◌++◌, string_bytes, option_map, Option, inl, subst}
use Rattle.couch_relay.specs.declared.inbox.Head.{Head}
use Rattle.couch_relay.specs.Inbox.{pending, head_view, ReadsHead}
use Rattle.couch_relay.proofs.Lines.{any_err, none_of, took_after, body_took, body_cut, body_parts, body_is}
use Rattle.couch_relay.proofs.Running.{chosen_body}
use Rattle.couch_relay.proofs.run.read_choice.Goals as goal

pub returns-in_default-clause-choice : goal.returns-in_default-clause-choice
returns-in_default-clause-choice g c =
    let R = g.R.ScriptRead in
    let none = subst (λ (o : Option Head). ReadsHead (R.taken c.args.reader.now) (R.taken c.head.new.reader) (R.ended c.head.new.reader) (pending c.args.inbox.now) (pending c.head.new.self) o) (none_of c.in_ok-head.field-0 c.in_default.not-Some) c.in_ok-head.ensures.head in
    (none.0, none.1, inl none.2)

pub returns-in_err-has-clause-err : goal.returns-in_err-has-clause-err
returns-in_err-has-clause-err g c =
    let R = g.R.ScriptRead in
    let head = subst (λ (o : Option Head). ReadsHead (R.taken c.args.reader.now) (R.taken c.head.new.reader) (R.ended c.head.new.reader) (pending c.args.inbox.now) (pending c.head.new.self) o) c.in-Some.is c.in_ok-head.ensures.head in
    any_err c.from_residual-in_err-has.result (took_after (R.taken c.args.reader.now) (R.taken c.head.new.reader) (R.taken c.has.new.reader) head.0 head.1 c.in_err-has.ensures.err)

pub returns-then-not-branch-clause-choice : goal.returns-then-not-branch-clause-choice
returns-then-not-branch-clause-choice g c =
    let R = g.R.ScriptRead in
    let head = subst (λ (o : Option Head). ReadsHead (R.taken c.args.reader.now) (R.taken c.head.new.reader) (R.ended c.head.new.reader) (pending c.args.inbox.now) (pending c.head.new.self) o) c.in-Some.is c.in_ok-head.ensures.head in
    let end = c.in_ok-has.ensures.end c.if-not-branch.true in
    let cut = body_cut (R.taken c.args.reader.now) (R.taken c.head.new.reader) (R.taken c.has.new.reader) (R.ended c.head.new.reader) (pending c.args.inbox.now) (pending c.head.new.self) (pending c.has.new.self) c.in-Some.head head c.in_ok-has.ensures.filled (R.ended c.has.new.reader) end.0 end.1 in
    (cut.0, cut.1, inl cut.2)

pub returns-in_err-choice-clause-err : goal.returns-in_err-choice-clause-err
returns-in_err-choice-clause-err g c =
    let R = g.R.ScriptRead in
    let head = subst (λ (o : Option Head). ReadsHead (R.taken c.args.reader.now) (R.taken c.head.new.reader) (R.ended c.head.new.reader) (pending c.args.inbox.now) (pending c.head.new.self) o) c.in-Some.is c.in_ok-head.ensures.head in
    any_err c.from_residual-in_err-choice.result (body_took (R.taken c.args.reader.now) (R.taken c.head.new.reader) (R.taken c.has.new.reader) (R.ended c.head.new.reader) (pending c.args.inbox.now) (pending c.head.new.self) (pending c.has.new.self) c.in-Some.head head c.in_ok-has.ensures.filled)

pub returns-clause-choice : goal.returns-clause-choice
returns-clause-choice g c =
    let R = g.R.ScriptRead in
    let head = subst (λ (o : Option Head). ReadsHead (R.taken c.args.reader.now) (R.taken c.head.new.reader) (R.ended c.head.new.reader) (pending c.args.inbox.now) (pending c.head.new.self) o) c.in-Some.is c.in_ok-head.ensures.head in
    let fs = c.in_ok-has.ensures.filled in (
      head.0 ++ fs.0,
      (body_took (R.taken c.args.reader.now) (R.taken c.head.new.reader) (R.taken c.has.new.reader) (R.ended c.head.new.reader) (pending c.args.inbox.now) (pending c.head.new.self) (pending c.has.new.self) c.in-Some.head head fs).1,
      chosen_body (option_map string_bytes c.in_ok-choice.choice) _ _ _ _ (head_view c.in-Some.head) _ c.body.ensures
          (body_parts (R.taken c.args.reader.now) (R.taken c.head.new.reader) (R.taken c.has.new.reader) (R.ended c.head.new.reader) (pending c.args.inbox.now) (pending c.head.new.self) (pending c.has.new.self) c.in-Some.head head fs (pending c.take.new.self) c.take.ensures.pending)
          (body_is (R.taken c.args.reader.now) (R.taken c.head.new.reader) (R.taken c.has.new.reader) (R.ended c.head.new.reader) (pending c.args.inbox.now) (pending c.head.new.self) (pending c.has.new.self) c.in-Some.head head fs (c.in_ok-has.ensures.held c.if-not-branch.false)) c.in_ok-choice.ensures,
    )
