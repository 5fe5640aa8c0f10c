use Rattle.json.specs.Value.{value_view}
use Rattle.couch_journal.proofs.{page_shown}
use Rattle.couch_journal.proofs.run.show_page.Goals as goal

pub returns-in-Ok-clause-ok : goal.returns-in-Ok-clause-ok
returns-in-Ok-clause-ok c = page_shown c.args.several (value_view c.args.value.now) c.args.text.now.items c.page_of.new.text.items c.in-Ok.ensures.ok
