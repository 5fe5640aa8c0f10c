use Rattle.proof_prelude.proofs.{None, arith}
use Rattle.std.proofs.lemmas.Str.Pattern.{split_once_first}
use Rattle.journal_tasks.proofs.{parts_without}
use Rattle.journal_tasks.proofs.ranks.parts_of.Goals as goal

pub returns-in-None : goal.returns-in-None
returns-in-None c = parts_without c.args.rev.now (split_once_first 45 c.args.rev.now None c.in-None.ensures.cases (omega arith))
