use Rattle.json.specs.Value.{value_view}
use Rattle.journal_lines.proofs.{number_read}
use Rattle.journal_lines.proofs.members.number_of.Goals as goal

pub returns : goal.returns
returns c = number_read (value_view c.args.value.now) c.as_u64.result c.as_u64.ensures
