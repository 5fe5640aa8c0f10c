use Rattle.proof_prelude.proofs.{option_map, string_bytes}
use Rattle.couch_relay.specs.Inbox.{pending}
use Rattle.couch_relay.proofs.Running.{weaken, finds}
use Rattle.couch_relay.proofs.run.choice_of.Goals as goal

pub returns-then-options-clause-choice : goal.returns-then-options-clause-choice
returns-then-options-clause-choice g c = weaken c.read_choice.result (λ o h. finds c.args.options.now (g.R.ScriptRead.taken c.args.reader.now) (g.R.ScriptRead.taken c.read_choice.new.reader) (g.R.ScriptRead.ended c.read_choice.new.reader) (pending c.args.inbox.now) (pending c.read_choice.new.inbox) (option_map string_bytes o) c.if-options.true h) c.read_choice.ensures.choice
