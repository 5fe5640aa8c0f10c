use Rattle.json.specs.Value.{value_view}
use Rattle.couch_journal.proofs.{refused_shown}
use Rattle.couch_journal.proofs.run.show_refused.Goals as goal

pub returns-in-Ok-clause-ok : goal.returns-in-Ok-clause-ok
returns-in-Ok-clause-ok c = refused_shown (value_view c.args.value.now) c.args.text.now.items c.refused_of.new.text.items c.in-Ok.refused c.in-Ok.ensures.ok
